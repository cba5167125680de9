-- What files in memory hold. Of two files of one name the first counts.
use Rattle.std.specs.Prelude.{◌≡◌, ℕ, List, [], drop, Bool, false, Option, None, Some, refl, find, is_some, slice_get, unwrap_or}
use Rattle.std.specs.Option.{option_map_or}
use Rattle.std.specs.Str.{bytes_eq}
use Rattle.std.proofs.lemmas.Bool.{true≢false}
use Rattle.duct_ports.specs.declared.held.HeldFile.{HeldFile}

-- the first file of the name
abbrev pub first_named : List HeldFile → List ℕ → Option HeldFile
first_named files name = find (λ file. bytes_eq file.name name) files

-- some file has the name
abbrev pub is_held : List HeldFile → List ℕ → Bool
is_held files name = is_some (first_named files name)

-- the bytes of the first file of the name; none where no file has it
abbrev pub contents_of : List HeldFile → List ℕ → List ℕ
contents_of files name = option_map_or (λ file. file.bytes) (first_named files name) []

-- files that are held, and the bytes left of the one that is started
pub record Opened : Type 0 where
  pub files : List HeldFile
  pub left : Option (List ℕ)

-- the bytes that a read can give
abbrev pub rest_of : Option (List ℕ) → List ℕ
rest_of left = unwrap_or left []

-- nothing is left where no file is started
pub rest_of-none : (left : Option (List ℕ)) → is_some left ≡ false → rest_of left ≡ []
rest_of-none None none = refl
rest_of-none (Some rest) none = absurd (true≢false none)

-- the bytes of the i-th file from a place in it on; none past the last file
abbrev pub bytes_from : List HeldFile → (ℕ × ℕ) → List ℕ
bytes_from files place =
    drop place.1 (option_map_or (λ file. file.bytes) (slice_get files place.0) [])
