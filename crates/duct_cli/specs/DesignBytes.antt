-- The bytes of the files of a design, wherever they lie in memory.
use Rattle.std.specs.Prelude.{ℕ, List, [], option_map, slice_get, unwrap_or}
use Rattle.duct_cli.specs.declared.designing.DesignBytes.{DesignBytes}
use Rattle.command_words.specs.Commands.{DesignFiles}

-- the bytes
abbrev pub bytes_seen : DesignBytes → DesignFiles
bytes_seen bytes = record {
  project = bytes.project.now;
  sizes = bytes.sizes.now;
  friction = bytes.friction.now;
  fittings = bytes.fittings.now;
  fans = bytes.fans.now;
  return_fans = option_map (λ b. b.now) bytes.return_fans;
}

-- the bytes of the file with this place in the order of the words
abbrev pub bytes_of : List (List ℕ) → ℕ → List ℕ
bytes_of files i = unwrap_or (slice_get files i) []

-- the bytes of files in the order of the words
abbrev pub bytes_at : List (List ℕ) → DesignFiles
bytes_at files = record {
  project = bytes_of files 0;
  sizes = bytes_of files 1;
  friction = bytes_of files 2;
  fittings = bytes_of files 3;
  fans = bytes_of files 4;
  return_fans = slice_get files 5;
}
