-- Members with a value put at a key: what stands at that key, at the others, and which keys there are.
use Rattle.std.proofs.Common.{◌≡◌, ℕ, List, [], ◌∷◌, ◌++◌, Bool, true, false, ◌&&◌, ◌||◌, Some, None, Ordering, Less, Equal, Greater, is_eq, refl, ap, ◌∙◌, sym, subst}
use Rattle.std.proofs.lemmas.Bool.{and_parts}
use Rattle.std.proofs.lemmas.Cmp.{nat_list_cmp_total, tied_itself}
use Rattle.std.proofs.lemmas.Map.Text.{is_eq-slice_cmp}
use Rattle.std.proofs.lemmas.Slice.Eq.{bytes_eq-Decides}
use Rattle.std.specs.List.{list_any}
use Rattle.std.specs.Ordering.{nat_cmp, match_ordering, ordering_reverse}
use Rattle.std.specs.Str.{bytes_eq}
use Rattle.std.specs.Cmp.Lexicographic.{slice_cmp}
use Rattle.toml.specs.Data.{Data, Members, no_members, member, get_member}
use Rattle.file_definitions.specs.Document.{has_only}
use Rattle.project_file.specs.Raised.{with_member}

-- an order of two keys that are not one
skip : {A : Type 0} (o : Ordering) (rest here : A) → is_eq o ≡ false → match_ordering o rest here rest ≡ rest
skip Less rest here e = refl
skip Equal rest here e = cc e
skip Greater rest here e = refl

-- at the key stands the value
pub get_here : (k : List ℕ) (d : Data) (ms : Members) → get_member k (with_member k d ms) ≡ Some d
get_here k d no_members = ap (λ o. match_ordering o None (Some d) None) (tied_itself nat_list_cmp_total k)
get_here k d (member l e ms) = at (slice_cmp nat_cmp k l) refl (get_here k d ms)
  where
    at : (o : Ordering) → slice_cmp nat_cmp k l ≡ o → get_member k (with_member k d ms) ≡ Some d
        → get_member k (match_ordering o (member k d (member l e ms)) (member l d ms) (member l e (with_member k d ms))) ≡ Some d
    at Less is later = ap (λ o. match_ordering o (get_member k (member l e ms)) (Some d) (get_member k (member l e ms))) (tied_itself nat_list_cmp_total k)
    at Equal is later = ap (λ o. match_ordering o (get_member k ms) (Some d) (get_member k ms)) is
    at Greater is later = ap (λ o. match_ordering o (get_member k (with_member k d ms)) (Some e) (get_member k (with_member k d ms))) is ∙ later

-- at any other key what stood there
pub get_other : (key k : List ℕ) (d : Data) (ms : Members) → is_eq (slice_cmp nat_cmp key k) ≡ false → get_member key (with_member k d ms) ≡ get_member key ms
get_other key k d no_members apart = skip (slice_cmp nat_cmp key k) None (Some d) apart
get_other key k d (member l e ms) apart = at (slice_cmp nat_cmp k l) refl (get_other key k d ms apart)
  where
    at : (o : Ordering) → slice_cmp nat_cmp k l ≡ o → get_member key (with_member k d ms) ≡ get_member key ms
        → get_member key (match_ordering o (member k d (member l e ms)) (member l d ms) (member l e (with_member k d ms))) ≡ get_member key (member l e ms)
    at Less is later = skip (slice_cmp nat_cmp key k) (get_member key (member l e ms)) (Some d) apart
    at Equal is later =
        let same : slice_cmp nat_cmp key l ≡ slice_cmp nat_cmp key k =
        nat_list_cmp_total.antisymm key l ∙ ap ordering_reverse (sym (nat_list_cmp_total.congr k l key is)) ∙ sym (nat_list_cmp_total.antisymm key k) in
        let too = ap is_eq same ∙ apart in
        skip (slice_cmp nat_cmp key l) (get_member key ms) (Some d) too ∙ sym (skip (slice_cmp nat_cmp key l) (get_member key ms) (Some e) too)
    at Greater is later = ap (λ rest. match_ordering (slice_cmp nat_cmp key l) rest (Some e) rest) later

-- no key but listed ones, and the one that was put
pub only_with : (keys : List (List ℕ)) (k : List ℕ) (d : Data) (ms : Members) → list_any (bytes_eq k) keys ≡ true → has_only keys ms ≡ true → has_only keys (with_member k d ms) ≡ true
only_with keys k d no_members listed only = ap (λ b. b && true) listed
only_with keys k d (member l e ms) listed only =
    let parts = and_parts (list_any (bytes_eq l) keys) (has_only keys ms) only in
    at (slice_cmp nat_cmp k l) parts.0 (only_with keys k d ms listed parts.1)
  where
    at : (o : Ordering) → list_any (bytes_eq l) keys ≡ true → has_only keys (with_member k d ms) ≡ true
        → has_only keys (match_ordering o (member k d (member l e ms)) (member l d ms) (member l e (with_member k d ms))) ≡ true
    at Less first later = ap (λ b. b && has_only keys (member l e ms)) listed ∙ only
    at Equal first later = only
    at Greater first later = ap (λ b. b && has_only keys (with_member k d ms)) first ∙ later

any_more : (key : List ℕ) (xs ys : List (List ℕ)) → list_any (bytes_eq key) xs ≡ true → list_any (bytes_eq key) (xs ++ ys) ≡ true
any_more key [] ys e = cc e
any_more key (x ∷ xs) ys e = at (bytes_eq key x) e (any_more key xs ys)
  where
    at : (b : Bool) → (b || list_any (bytes_eq key) xs) ≡ true → (list_any (bytes_eq key) xs ≡ true → list_any (bytes_eq key) (xs ++ ys) ≡ true) → (b || list_any (bytes_eq key) (xs ++ ys)) ≡ true
    at true e later = refl
    at false e later = later e

-- more keys may be listed
pub only_more : (keys more : List (List ℕ)) (ms : Members) → has_only keys ms ≡ true → has_only (keys ++ more) ms ≡ true
only_more keys more no_members only = refl
only_more keys more (member k d ms) only =
    let parts = and_parts (list_any (bytes_eq k) keys) (has_only keys ms) only in
    ap (λ b. b && has_only (keys ++ more) ms) (any_more k keys more parts.0) ∙ only_more keys more ms parts.1

-- a key that isn't listed is absent
pub not_listed : (keys : List (List ℕ)) (key : List ℕ) (ms : Members) → has_only keys ms ≡ true → list_any (bytes_eq key) keys ≡ false → get_member key ms ≡ None
not_listed keys key no_members only apart = refl
not_listed keys key (member l d ms) only apart =
    let parts = and_parts (list_any (bytes_eq l) keys) (has_only keys ms) only in
    at (is_eq (slice_cmp nat_cmp key l)) refl parts.0 (not_listed keys key ms parts.1 apart)
  where
    at : (b : Bool) → is_eq (slice_cmp nat_cmp key l) ≡ b → list_any (bytes_eq l) keys ≡ true → get_member key ms ≡ None → get_member key (member l d ms) ≡ None
    at true is listed later =
        let same : key ≡ l = (bytes_eq-Decides key l).0 (sym (is_eq-slice_cmp key l) ∙ is) in
        let there : list_any (bytes_eq key) keys ≡ true = subst (λ k. list_any (bytes_eq k) keys ≡ true) (sym same) listed in
        cc (sym apart ∙ there)
    at false is listed later = skip (slice_cmp nat_cmp key l) (get_member key ms) (Some d) is ∙ later
