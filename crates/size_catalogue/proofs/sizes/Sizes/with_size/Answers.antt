use Rattle.std.proofs.Common.{◌≡◌, ℕ, ◌+◌, ◌≤◌, ◌<◌, vec_len, ◌∙◌, sym, ap, subst, true, not, arith, length, ◌++◌, ◌∷◌, []}
use Rattle.std.specs.Prelude.{◌==◌, if◌then◌else◌}
use Rattle.size_catalogue.specs.declared.limits.TheConstants.{MAX_LISTS, MAX_LIST_SIZES}
use Rattle.size_catalogue.specs.Numbers.{numbers_at, with_number}
use Rattle.name_index.specs.Places.{is_among}
use Rattle.size_catalogue.specs.Catalogue.{IsCatalogue, names_of, numbers_of, list_number, lists_with, size_in_list}
use Rattle.size_catalogue.specs.CatalogueIndex.{catalogue_of}
use Rattle.size_catalogue.proofs.CatalogueLaws.{few, list_number-most, names_of-push, numbers_held, as_many, with_size_is, not_there, had_room, IsCatalogue-with_size}
use Rattle.size_catalogue.proofs.sizes.Sizes.with_size.Goals as goal

pub overflow_cast-len : goal.overflow_cast-len
overflow_cast-len c = omega (arith, few (catalogue_of c.self.inside) c.self.invariant.is)

pub add_number-requires : goal.add_number-requires
add_number-requires c = omega (arith, c.in_ok-list.ensures.value, list_number-most c.args.row.list c.self.inside.lists, c.self.invariant.lists)

pub overflow_cast-list : goal.overflow_cast-list
overflow_cast-list c = omega (arith, c.in_ok-list.ensures.value, list_number-most c.args.row.list c.self.inside.lists, c.self.invariant.is.lists_fit)

pub invariant_of-result : goal.invariant_of-result
invariant_of-result c =
    let lists = c.self.inside.lists in
    let sizes = c.self.inside.sizes.items in
    let row = c.args.row in
    let is_new : true ≡ not (is_among row.name c.self.inside.names) = sym c.if-not-branch.false ∙ c.in_ok-add.ensures.value in
    let is_names : c.add.new.self ≡ c.self.inside.names ++ row.name ∷ [] = rw c.if-not-branch.false at c.in_ok-add.ensures.names in
    let is_list : c.in_ok-list.list ≡ list_number row.list lists = c.in_ok-list.ensures.value in
    let is_lists : c.list_number.new.lists ≡ lists_with row.list lists = c.in_ok-list.ensures.lists in
    let is_size : c.in_list.result ≡ size_in_list (list_number row.list lists) row = c.in_list.ensures ∙ ap (λ j. size_in_list j row) is_list in
    let is_sizes : c.push.new.self.items ≡ sizes ++ size_in_list (list_number row.list lists) row ∷ [] = c.in_ok-push.ensures.items ∙ ap (λ s. sizes ++ s ∷ []) is_size in
    let last = size_in_list (list_number row.list lists) row in
    let added = c.in_ok-add_number.ensures in
    let is_added = c.if-not-branch-2.false in
    let catalogue = catalogue_of c.self.inside in
    let rows = vec_len c.self.inside.numbers in
    let more : (j : ℕ) → numbers_at c.add_number.new.numbers.items j ≡ with_number (last.list == j) (numbers_at c.self.inside.numbers.items j) c.len-else-len-gt-MAX_LISTS.result
    = λ j. (rw is_added at added.numbers j) ∙ ap (λ (i : ℕ). with_number (i == j) (numbers_at c.self.inside.numbers.items j) c.len-else-len-gt-MAX_LISTS.result) is_list in
    let few_lists : length (lists_with row.list lists) ≤ MAX_LISTS = omega (arith, c.if-len-gt-MAX_LISTS.false, c.len.ensures, ap length is_lists) in
    let room : length (numbers_of (list_number row.list lists) sizes) < MAX_LIST_SIZES =
    had_room (numbers_at c.self.inside.numbers.items) c.in_ok-list.list (list_number row.list lists) sizes c.self.invariant.numbers is_list (sym is_added ∙ added.value) in
    record {
      names = is_names ∙ ap (λ names. names ++ row.name ∷ []) c.self.invariant.names ∙ sym (names_of-push sizes last) ∙ ap names_of (sym is_sizes);
      lists = as_many row.list lists rows (vec_len c.add_number.new.numbers) c.self.invariant.lists (added.lists ∙ ap (λ (i : ℕ). if i == rows then rows + 1 else rows) is_list) ∙ ap length (sym is_lists);
      numbers = λ j. numbers_held sizes last (numbers_at c.self.inside.numbers.items) (numbers_at c.add_number.new.numbers.items) c.len-else-len-gt-MAX_LISTS.result c.self.invariant.numbers
          (c.len-else-len-gt-MAX_LISTS.ensures ∙ c.self.inside.sizes.ok.0) more j ∙ ap (numbers_of j) (sym is_sizes);
      is = subst IsCatalogue (with_size_is catalogue row c.list_number.new.lists c.push.new.self.items is_lists is_sizes)
          (IsCatalogue-with_size catalogue row c.self.invariant.is c.requires (not_there row.name c.self.inside.names sizes c.self.invariant.names is_new) few_lists room);
    }

pub returns-clause-catalogue : goal.returns-clause-catalogue
returns-clause-catalogue c = (invariant_of-result c).is
