-- A raised document nests no deeper.
use Rattle.std.proofs.Common.{◌≡◌, ◌∙◌, ◌&&◌, refl, ap, ℕ, ◌≤◌, List, [], map, true, false, Option, Some, None, Ordering, Less, Equal, Greater, option_map, arith}
use Rattle.std.specs.Prelude.{codes, pos, unwrap_or, option_and_then, if◌then◌else◌, Bool}
use Rattle.std.proofs.lemmas.Bool.{and_parts}
use Rattle.std.proofs.lemmas.Bool.Decides.{nat_tests}
use Rattle.std.specs.Ordering.{nat_cmp, match_ordering}
use Rattle.std.specs.Cmp.Lexicographic.{slice_cmp}
use Rattle.toml.specs.Data.{Data, string, integer, float, boolean, datetime, array, table, Items, no_items, item, Members, no_members, member, as_array, depth, items_depth, members_depth, has_valid_dates, items_have_valid_dates, members_have_valid_dates, get_member}
use Rattle.toml.specs.View.{items_of}
use Rattle.file_definitions.specs.Document.{list_of}
use Rattle.project_file.specs.Raised.{raised, with_leak, with_leaks, with_member}
use Rattle.project_file.specs.TopTable.{is_format}
use Rattle.project_file.specs.Shallow.{AreShallow, IsShallow, ItemsShallow}
use Rattle.project_file.proofs.KindDepths.{Nests}

with_member_nests : (n : ℕ) (k : List ℕ) (d : Data) (ms : Members) → IsShallow n d → AreShallow n ms → AreShallow n (with_member k d ms)
with_member_nests n k d no_members here nests = let inside = here.0 in (grind (arith, nat_tests), ap (λ b. b && true) here.1)
with_member_nests n k d (member l e ms) here nests =
    let whole = nests.0 in
    let parts = and_parts (has_valid_dates e) (members_have_valid_dates ms) nests.1 in
    let first : depth e ≤ n = grind (arith, nat_tests) in
    let others : members_depth ms ≤ n = grind (arith, nat_tests) in
    at (slice_cmp nat_cmp k l) (first, parts.0) (others, parts.1) (with_member_nests n k d ms here (others, parts.1))
  where
    joined : (l : List ℕ) (e : Data) (ms : Members) → IsShallow n e → AreShallow n ms → AreShallow n (member l e ms)
    joined l e ms first others =
        let here = first.0 in
        let behind = others.0 in
        (grind (arith, nat_tests), ap (λ b. b && members_have_valid_dates ms) first.1 ∙ others.1)

    at : (o : Ordering) → IsShallow n e → AreShallow n ms → AreShallow n (with_member k d ms)
        → AreShallow n (match_ordering o (member k d (member l e ms)) (member l d ms) (member l e (with_member k d ms)))
    at Less first others later = joined k d (member l e ms) here (joined l e ms first others)
    at Equal first others later = joined l d ms here others
    at Greater first others later = joined l e (with_member k d ms) first later

found_nests : (n : ℕ) (k : List ℕ) (ms : Members) → AreShallow n ms → Nests n (get_member k ms)
found_nests n k no_members nests = tt
found_nests n k (member l e ms) nests =
    let whole = nests.0 in
    let parts = and_parts (has_valid_dates e) (members_have_valid_dates ms) nests.1 in
    let first : depth e ≤ n = grind (arith, nat_tests) in
    let others : members_depth ms ≤ n = grind (arith, nat_tests) in
    at (slice_cmp nat_cmp k l) (first, parts.0) (found_nests n k ms (others, parts.1))
  where
    at : (o : Ordering) → IsShallow n e → Nests n (get_member k ms) → Nests n (match_ordering o (get_member k ms) (Some e) (get_member k ms))
    at Less first later = later
    at Equal first later = first
    at Greater first later = later

leak_nests : (d : Data) → IsShallow 1 d → IsShallow 1 (with_leak d)
leak_nests (string s) nests = nests
leak_nests (integer z) nests = nests
leak_nests (float x) nests = nests
leak_nests (boolean b) nests = nests
leak_nests (datetime t) nests = nests
leak_nests (array ds) nests = nests
leak_nests (table ms) nests =
    let whole = nests.0 in
    let flat : members_depth ms ≤ 0 = omega arith in
    let zero_nests : IsShallow 0 (integer (pos 0)) = (omega arith, refl) in
    let new = with_member_nests 0 (codes "leak") (integer (pos 0)) ms zero_nests (flat, nests.1) in
    let inside = new.0 in
    (omega arith, new.1)

leaks_nest : (ds : Items) → ItemsShallow 1 ds → ItemsShallow 1 (items_of (map with_leak (list_of ds)))
leaks_nest no_items nests = (omega arith, refl)
leaks_nest (item d ds) nests =
    let whole = nests.0 in
    let parts = and_parts (has_valid_dates d) (items_have_valid_dates ds) nests.1 in
    let first : depth d ≤ 1 = grind (arith, nat_tests) in
    let others : items_depth ds ≤ 1 = grind (arith, nat_tests) in
    let new = leak_nests d (first, parts.0) in
    let later = leaks_nest ds (others, parts.1) in
    let here = new.0 in
    let behind = later.0 in
    (grind (arith, nat_tests), ap (λ b. b && items_have_valid_dates (items_of (map with_leak (list_of ds)))) new.1 ∙ later.1)

sections_nest : (found : Option Data) → Nests 2 found → ItemsShallow 1 (items_of (map with_leak (unwrap_or (option_map list_of (option_and_then as_array found)) [])))
sections_nest None nests = (omega arith, refl)
sections_nest (Some (string s)) nests = (omega arith, refl)
sections_nest (Some (integer z)) nests = (omega arith, refl)
sections_nest (Some (float x)) nests = (omega arith, refl)
sections_nest (Some (boolean b)) nests = (omega arith, refl)
sections_nest (Some (datetime t)) nests = (omega arith, refl)
sections_nest (Some (table ms)) nests = (omega arith, refl)
sections_nest (Some (array ds)) nests =
    let whole = nests.0 in
    let inside : items_depth ds ≤ 1 = omega arith in
    leaks_nest ds (inside, nests.1)

pub raised_nests : (doc : Members) → AreShallow 2 doc → AreShallow 2 (raised doc)
raised_nests doc nests =
    let items = sections_nest (get_member (codes "section") doc) (found_nests 2 (codes "section") doc nests) in
    let inside = items.0 in
    let deep : depth (with_leaks doc) ≤ 2 = omega arith in
    let two : IsShallow 2 (integer (pos 2)) = (omega arith, refl) in
    at (is_format 1 doc) (with_member_nests 2 (codes "format") (integer (pos 2)) (with_member (codes "section") (with_leaks doc) doc) two (with_member_nests 2 (codes "section") (with_leaks doc) doc (deep, items.1) nests))
  where
    at : (b : Bool) → AreShallow 2 (with_member (codes "format") (integer (pos 2)) (with_member (codes "section") (with_leaks doc) doc))
        → AreShallow 2 (if b then with_member (codes "format") (integer (pos 2)) (with_member (codes "section") (with_leaks doc) doc) else doc)
    at true new = new
    at false new = nests
