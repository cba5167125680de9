-- Members with one put at a key.
use Rattle.std.proofs.Common.{◌≡◌, List, [], ◌∷◌, String, Global, string_bytes, Ordering, Less, Equal, Greater, refl, ap}
use Rattle.std.specs.BTreeMap.{insert_entry}
use Rattle.std.specs.Ordering.{match_ordering}
use Rattle.std.specs.String.{string_cmp}
use Rattle.toml.specs.Data.{member}
use Rattle.toml.specs.View.{view, members_view}
use Rattle.toml.specs.declared.value.Value.{Value}
use Rattle.project_file.specs.Raised.{with_member}

abbrev pub Entry : Type 0
Entry = String Global × Value

-- what the insertion leaves, as members
pub inserted : (k : String Global) (v : Value) (es : List Entry) → members_view (insert_entry string_cmp es k v) ≡ with_member (string_bytes k) (view v) (members_view es)
inserted k v [] = refl
inserted k v (e ∷ es) = at (string_cmp k e.0) (inserted k v es)
  where
    at : (o : Ordering) → members_view (insert_entry string_cmp es k v) ≡ with_member (string_bytes k) (view v) (members_view es)
        → members_view (match_ordering o ((k, v) ∷ e ∷ es) ((e.0, v) ∷ es) (e ∷ insert_entry string_cmp es k v))
        ≡ match_ordering o (member (string_bytes k) (view v) (members_view (e ∷ es))) (member (string_bytes e.0) (view v) (members_view es)) (member (string_bytes e.0) (view e.1) (with_member (string_bytes k) (view v) (members_view es)))
    at Less later = refl
    at Equal later = refl
    at Greater later = ap (λ ms. member (string_bytes e.0) (view e.1) ms) later
