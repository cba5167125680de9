-- The keys of a table beside the members that it is seen as.
use Rattle.std.proofs.Common.{◌≡◌, ℕ, List, [], ◌∷◌, map, refl, ap, ◌∙◌, Bor, String, Global, string_bytes, Bool, ◌&&◌, ◌||◌, rules}
use Rattle.std.specs.List.{list_any, list_all}
use Rattle.std.specs.Map.{keys_of}
use Rattle.std.specs.Str.{bytes_eq}
use Rattle.toml.specs.declared.value.Value.{Value}
use Rattle.toml.specs.View.{members_view, items_view, view}
use Rattle.file_definitions.specs.Document.{has_only, list_of, are_tables}
use Rattle.std.specs.Prelude.{is_some}
use Rattle.toml.specs.Data.{as_table}

pub listed-map : (key : List ℕ) (ks : List (Bor (List ℕ))) → list_any (λ listed. bytes_eq key listed.now) ks ≡ list_any (bytes_eq key) (map (λ k. k.now) ks)
listed-map key [] = refl
listed-map key (k ∷ ks) = ap (λ b. bytes_eq key k.now || b) (listed-map key ks)

pub has_only-view : (ks : List (Bor (List ℕ))) (es : List (String Global × Value))
    → list_all (λ key. list_any (λ listed. bytes_eq (string_bytes key) listed.now) ks) (keys_of es) ≡ has_only (map (λ k. k.now) ks) (members_view es)
has_only-view ks [] = refl
has_only-view ks (e ∷ es) = rw (listed-map (string_bytes e.0) ks, has_only-view ks es) refl

-- the items of an array are the values seen as data
pub list_of-view : (vs : List Value) → list_of (items_view vs) ≡ map view vs
list_of-view [] = refl
list_of-view (v ∷ vs) = ap (λ ds. view v ∷ ds) (list_of-view vs)

pub are_tables-view : (vs : List Value) → list_all (λ value. is_some (as_table (view value))) vs ≡ are_tables (map view vs)
are_tables-view [] = refl
are_tables-view (v ∷ vs) = ap (λ b. is_some (as_table (view v)) && b) (are_tables-view vs)
