-- How far a sizes file was read.
use Rattle.std.proofs.Common.{◌≡◌, ℕ, ◌+◌, List, [], ◌∷◌, length, Ok, refl, sym, ap, ◌∙◌, subst, arith, length-append}
use Rattle.std.proofs.lemmas.List.Elements.{All-nil}
use Rattle.file_definitions.specs.Rows.{rows_of, with_row, TakesRow}
use Rattle.file_definitions.proofs.RowLaws.{taken_item}
use Rattle.csv_fields.specs.RowsLeft.{RowsLeft, IsNextRow, opened}
use Rattle.csv_fields.proofs.ReadingLaws.{IsReadTo, opened-read, read_row}
use Rattle.size_catalogue.specs.declared.row.Size.{Size}
use Rattle.size_catalogue.specs.Catalogue.{Catalogue, IsCatalogue, IsSize, with_size, size_in_list, list_number}
use Rattle.size_catalogue.specs.Reading.{header, sizes_form}

-- the rows up to the one at hand made the catalogue
pub record MadeSizes (bytes : List ℕ) (rows : RowsLeft) (catalogue : Catalogue) : Type 0 where
  pub read : IsReadTo sizes_form (rows_of bytes) rows catalogue
  pub count : rows.number ≡ length catalogue.sizes + 1
  pub is : IsCatalogue catalogue

-- no row makes the empty catalogue
pub no_sizes : IsCatalogue (record { lists = []; sizes = [] })
no_sizes = record {
  lists_fit = omega arith;
  sizes_fit = λ j. omega arith;
  lists_used = λ j less. absurd (omega arith);
  in_lists = All-nil (λ (size : Size). _);
  bounds = All-nil IsSize;
  lists_once = λ i name e. cc e;
  names_once = λ i name e. cc e;
}

pub starts : (bytes : List ℕ) (rows : RowsLeft) (catalogue : Catalogue) → opened header (rows_of bytes) ≡ Ok rows → catalogue.lists ≡ [] → catalogue.sizes ≡ [] → MadeSizes bytes rows catalogue
starts bytes rows catalogue opens none empty =
    let is : record { lists = []; sizes = [] } ≡ catalogue = rw (none, empty) refl in
    let (read, first) = opened-read sizes_form (rows_of bytes) rows opens in
    subst (MadeSizes bytes rows) is (record { read = read; count = first; is = no_sizes })

-- a row that was taken adds one size
one_more : (number : ℕ) (catalogue more : Catalogue) (row : List (List ℕ)) → TakesRow sizes_form number catalogue row (Ok more) → length more.sizes ≡ length catalogue.sizes + 1
one_more number catalogue more row takes =
    let (item, some) = taken_item sizes_form number catalogue row takes.0 in
    let is : more ≡ with_size catalogue item = takes.1 ∙ ap (with_row sizes_form catalogue) some in
    ap (λ (c : Catalogue). length c.sizes) is ∙ length-append catalogue.sizes (size_in_list (list_number item.list catalogue.lists) item ∷ [])

pub goes_on : (bytes : List ℕ) (old new : RowsLeft) (catalogue more : Catalogue) → MadeSizes bytes old catalogue → IsNextRow old new
    → TakesRow sizes_form new.number catalogue new.row (Ok more) → IsCatalogue more → MadeSizes bytes new more
goes_on bytes old new catalogue more made next takes is =
    record {
      read = read_row sizes_form (rows_of bytes) old new catalogue more made.read next takes;
      count = next.counted ∙ ap (λ n. n + 1) made.count ∙ ap (λ n. n + 1) (sym (one_more new.number catalogue more new.row takes));
      is = is;
    }
