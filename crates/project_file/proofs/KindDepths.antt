-- How deep the values of a kind nest.
use Rattle.std.proofs.Common.{◌&&◌, ◌≡◌, ℕ, ◌≤◌, suc, List, [], ◌∷◌, true, Option, Some, None, IfSome, is_some, option_map, refl, ap, ◌∙◌, sym, subst, arith}
use Rattle.std.specs.Prelude.{ℤ, option_and_then, unwrap_or, if◌then◌else◌, All}
use Rattle.std.proofs.lemmas.Bool.Decides.{nat_tests}
use Rattle.std.proofs.lemmas.List.Elements.{All-head, All-tail}
use Rattle.toml.specs.Data.{Data, string, integer, float, boolean, datetime, array, table, Items, no_items, item, Members, no_members, as_str, as_integer, as_bool, as_array, as_table, depth, items_depth, members_depth, has_valid_dates, items_have_valid_dates, members_have_valid_dates, get_member}
use Rattle.duct_units.specs.Name.{name_of}
use Rattle.file_definitions.specs.Document.{all_of, bounded, list_of, name_at, number_at, text_at}
use Rattle.project_file.specs.Shallow.{AreShallow, IsShallow, ItemsShallow}
use Rattle.toml_fields.specs.KeyFields.{flag_at, optional_flag_at, optional_name_at, optional_number_at}

-- where there is a value, it nests so often at most
abbrev pub Nests : ℕ → Option Data → Type 0
Nests n found = IfSome found (IsShallow n)

-- what comes first is there where what follows from it is
pub first_some : {A B : Type 0} (o : Option A) (f : A → Option B) → is_some (option_and_then f o) ≡ true → is_some o ≡ true
first_some None f e = cc e
first_some (Some x) f e = refl

-- and then it has a value from which the rest follows
pub then_some : {A B : Type 0} (o : Option A) (f : A → Option B) → is_some (option_and_then f o) ≡ true → (is_some o ≡ true) × ((x : A) × (is_some (f x) ≡ true))
then_some None f e = cc e
then_some (Some x) f e = (refl, (x, e))

bounded_some : (low high : ℕ) (number : Option ℤ) → is_some (bounded low high number) ≡ true → is_some number ≡ true
bounded_some low high None e = cc e
bounded_some low high (Some n) e = refl

-- strings, integers and truth values nest nothing
of_string : (n : ℕ) (d : Data) → is_some (as_str d) ≡ true → IsShallow n d
of_string n (string s) e = (omega arith, refl)
of_string n (integer z) e = cc e
of_string n (float x) e = cc e
of_string n (boolean b) e = cc e
of_string n (datetime t) e = cc e
of_string n (array ds) e = cc e
of_string n (table ms) e = cc e

of_integer : (n : ℕ) (d : Data) → is_some (as_integer d) ≡ true → IsShallow n d
of_integer n (string s) e = cc e
of_integer n (integer z) e = (omega arith, refl)
of_integer n (float x) e = cc e
of_integer n (boolean b) e = cc e
of_integer n (datetime t) e = cc e
of_integer n (array ds) e = cc e
of_integer n (table ms) e = cc e

of_flag : (n : ℕ) (d : Data) → is_some (as_bool d) ≡ true → IsShallow n d
of_flag n (string s) e = cc e
of_flag n (integer z) e = cc e
of_flag n (float x) e = cc e
of_flag n (boolean b) e = (omega arith, refl)
of_flag n (datetime t) e = cc e
of_flag n (array ds) e = cc e
of_flag n (table ms) e = cc e

of_kind : {A : Type 0} (n : ℕ) (kind : Data → Option A) → ((d : Data) → is_some (kind d) ≡ true → IsShallow n d) → (found : Option Data) → is_some (option_and_then kind found) ≡ true → Nests n found
of_kind n kind flat None e = tt
of_kind n kind flat (Some d) e = flat d e

pub text_nests : (n : ℕ) (key : List ℕ) (ms : Members) → is_some (text_at key ms) ≡ true → Nests n (get_member key ms)
text_nests n key ms e = of_kind n as_str (of_string n) (get_member key ms) e

pub name_nests : (n : ℕ) (key : List ℕ) (ms : Members) → is_some (name_at key ms) ≡ true → Nests n (get_member key ms)
name_nests n key ms e = text_nests n key ms (first_some (text_at key ms) name_of e)

pub integer_nests : (n : ℕ) (key : List ℕ) (ms : Members) → is_some (option_and_then as_integer (get_member key ms)) ≡ true → Nests n (get_member key ms)
integer_nests n key ms e = of_kind n as_integer (of_integer n) (get_member key ms) e

pub number_nests : (n : ℕ) (key : List ℕ) (low high : ℕ) (ms : Members) → is_some (number_at key low high ms) ≡ true → Nests n (get_member key ms)
number_nests n key low high ms e = integer_nests n key ms (bounded_some low high (option_and_then as_integer (get_member key ms)) e)

flag_nests : (n : ℕ) (key : List ℕ) (ms : Members) → is_some (flag_at key ms) ≡ true → Nests n (get_member key ms)
flag_nests n key ms e = of_kind n as_bool (of_flag n) (get_member key ms) e

-- what may be absent
optional_nests : {A : Type 0} (n : ℕ) (found : Option Data) (value : Option A) → (is_some value ≡ true → Nests n found) → is_some (if is_some found then option_map (λ v. Some v) value else Some None) ≡ true → Nests n found
optional_nests n None value nests e = tt
optional_nests n (Some d) None nests e = cc e
optional_nests n (Some d) (Some v) nests e = nests refl

pub optional_number_nests : (n : ℕ) (key : List ℕ) (low high : ℕ) (ms : Members) → is_some (optional_number_at key low high ms) ≡ true → Nests n (get_member key ms)
optional_number_nests n key low high ms e = optional_nests n (get_member key ms) (number_at key low high ms) (number_nests n key low high ms) e

pub optional_name_nests : (n : ℕ) (key : List ℕ) (ms : Members) → is_some (optional_name_at key ms) ≡ true → Nests n (get_member key ms)
optional_name_nests n key ms e = optional_nests n (get_member key ms) (name_at key ms) (name_nests n key ms) e

pub optional_flag_nests : (n : ℕ) (key : List ℕ) (ms : Members) → is_some (optional_flag_at key ms) ≡ true → Nests n (get_member key ms)
optional_flag_nests n key ms e = optional_nests n (get_member key ms) (flag_at key ms) (flag_nests n key ms) e

-- a table nests once more than its members
pub table_nests : (n : ℕ) (found : Option Data) → is_some (option_and_then as_table found) ≡ true → AreShallow n (unwrap_or (option_and_then as_table found) no_members) → Nests (suc n) found
table_nests n None e flat = tt
table_nests n (Some (string s)) e flat = cc e
table_nests n (Some (integer z)) e flat = cc e
table_nests n (Some (float x)) e flat = cc e
table_nests n (Some (boolean b)) e flat = cc e
table_nests n (Some (datetime t)) e flat = cc e
table_nests n (Some (array ds)) e flat = cc e
table_nests n (Some (table ms)) e flat = let inside = flat.0 in (omega arith, flat.1)

pub optional_table_nests : (n : ℕ) (found : Option Data) → is_some (if is_some found then option_and_then as_table found else Some no_members) ≡ true
    → AreShallow n (unwrap_or (if is_some found then option_and_then as_table found else Some no_members) no_members) → Nests (suc n) found
optional_table_nests n None e flat = tt
optional_table_nests n (Some d) e flat = table_nests n (Some d) e flat

-- an array of tables nests twice more
tables_nest : (n : ℕ) (ds : Items) (found : Option (List Members)) → all_of as_table (list_of ds) ≡ found → is_some found ≡ true → All (AreShallow n) (unwrap_or found []) → ItemsShallow (suc n) ds
tables_nest n no_items found is there flat = (omega arith, refl)
tables_nest n (item d ds) found is there flat = of_first d (all_of as_table (list_of ds)) refl is (λ rest at some all. tables_nest n ds rest at some all)
  where
    of_rest : (ms : Members) (others : Option (List Members)) → option_map (λ rest. ms ∷ rest) others ≡ found
        → ((rest : Option (List Members)) → rest ≡ others → is_some rest ≡ true → All (AreShallow n) (unwrap_or rest []) → ItemsShallow (suc n) ds)
        → AreShallow n ms × ItemsShallow (suc n) ds
    of_rest ms None same later = let e = sym there ∙ ap is_some (sym same) in cc e
    of_rest ms (Some rest) same later =
        let all = subst (λ (o : Option (List Members)). All (AreShallow n) (unwrap_or o [])) (sym same) flat in
        (All-head (AreShallow n) ms rest all, later (Some rest) refl refl (All-tail (AreShallow n) ms rest all))

    of_first : (d : Data) (others : Option (List Members)) → all_of as_table (list_of ds) ≡ others
        → option_and_then (λ first. option_map (λ rest. first ∷ rest) (all_of as_table (list_of ds))) (as_table d) ≡ found
        → ((rest : Option (List Members)) → all_of as_table (list_of ds) ≡ rest → is_some rest ≡ true → All (AreShallow n) (unwrap_or rest []) → ItemsShallow (suc n) ds)
        → ItemsShallow (suc n) (item d ds)
    of_first (string s) others at is later = let e = sym there ∙ ap is_some (sym is) in cc e
    of_first (integer z) others at is later = let e = sym there ∙ ap is_some (sym is) in cc e
    of_first (float x) others at is later = let e = sym there ∙ ap is_some (sym is) in cc e
    of_first (boolean b) others at is later = let e = sym there ∙ ap is_some (sym is) in cc e
    of_first (datetime t) others at is later = let e = sym there ∙ ap is_some (sym is) in cc e
    of_first (array es) others at is later = let e = sym there ∙ ap is_some (sym is) in cc e
    of_first (table ms) others at is later =
        let parts = of_rest ms (all_of as_table (list_of ds)) is (λ rest same some all. later rest (sym same) some all) in
        let here = parts.0.0 in
        let more = parts.1.0 in
        (grind (arith, nat_tests), ap (λ b. b && items_have_valid_dates ds) parts.0.1 ∙ parts.1.1)

pub array_nests : (n : ℕ) (found : Option Data) → is_some (option_and_then (all_of as_table) (option_map list_of (option_and_then as_array found))) ≡ true
    → All (AreShallow n) (unwrap_or (option_and_then (all_of as_table) (option_map list_of (option_and_then as_array found))) []) → Nests (suc (suc n)) found
array_nests n None e flat = tt
array_nests n (Some (string s)) e flat = cc e
array_nests n (Some (integer z)) e flat = cc e
array_nests n (Some (float x)) e flat = cc e
array_nests n (Some (boolean b)) e flat = cc e
array_nests n (Some (datetime t)) e flat = cc e
array_nests n (Some (table ms)) e flat = cc e
array_nests n (Some (array ds)) e flat =
    let items = tables_nest n ds (all_of as_table (list_of ds)) refl e flat in
    let inside = items.0 in
    (omega arith, items.1)
