-- The fields of a name, from its bytes.
use Rattle.std.specs.Prelude.{◌≡◌, ℕ, List, length, take}
use Rattle.std.proofs.Common.{ap, ◌∙◌}
use Rattle.duct_units.specs.Name.{padded, HoldsName, name_again}
use Rattle.duct_units.specs.declared.name.Name.TheInside.{Inside}

-- the bytes with their zeros, and the length
abbrev pub fields_of : List ℕ → Inside
fields_of name = record { bytes = padded name; len = length name }

-- the fields that hold a name are those of the name
pub fields_again : (a : Inside) → HoldsName a.bytes a.len → fields_of (take a.len a.bytes) ≡ a
fields_again a held =
    let again = name_again a.bytes a.len held in
    let with_bytes : List ℕ → Inside = λ b. record { bytes = b; len = length (take a.len a.bytes) } in
    let with_len : ℕ → Inside = λ n. record { bytes = a.bytes; len = n } in
    ap with_bytes again.0 ∙ ap with_len again.1
