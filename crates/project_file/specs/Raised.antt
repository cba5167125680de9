-- The document of format 2 that says what a document of format 1 says.
--   with_member key value ms   the members with the value at the key, in the place of the one that was there
--   raised doc                 the same document with format 2, and with `leak` 0 in each section; of format 2 itself
--   migrating document         the raised document of a project that breaks no rule, or its refusal
use Rattle.std.specs.Prelude.{ℕ, pos, List, [], codes, map, if◌then◌else◌, Option, Some, None, unwrap_or, Result, Err}
use Rattle.std.specs.Ordering.{nat_cmp, match_ordering}
use Rattle.std.specs.Cmp.Lexicographic.{slice_cmp}
use Rattle.toml.specs.Data.{Data, integer, array, table, Members, no_members, member}
use Rattle.toml.specs.View.{items_of}
use Rattle.duct_units.specs.declared.fault.Fault.{Fault}
use Rattle.duct_units.specs.declared.fault.Reason.TheVariants.{Text}
use Rattle.duct_units.specs.Rules.{file_fault, first_broken, unless_refused}
use Rattle.file_definitions.specs.Document.{document_of, items_at}
use Rattle.project_file.specs.ProjectFile.{project_rules}
use Rattle.project_file.specs.TopTable.{is_format}

-- the members with the value at the key, in the place of the one that was there; the keys of members ascend
abbrev pub with_member : List ℕ → Data → Members → Members
with_member key value no_members = member key value no_members
with_member key value (member other old rest) =
    match_ordering (slice_cmp nat_cmp key other)
    (member key value (member other old rest))
    (member other value rest)
    (member other old (with_member key value rest))

-- a table with `leak` 0
abbrev pub with_leak : Data → Data
with_leak (table ms) = table (with_member (codes "leak") (integer (pos 0)) ms)
with_leak other = other

-- the items of the array of sections
abbrev pub section_items : Members → List Data
section_items doc = unwrap_or (items_at (codes "section") doc) []

-- the sections, each with `leak` 0
abbrev pub with_leaks : Members → Data
with_leaks doc = array (items_of (map with_leak (section_items doc)))

-- a document of format 1 with format 2 and `leak` 0 in each section; any other document itself
abbrev pub raised : Members → Members
raised doc =
    if is_format 1 doc
    then with_member (codes "format") (integer (pos 2)) (with_member (codes "section") (with_leaks doc) doc)
    else doc

-- the raised document, or the fault of the first broken rule; without a document, the fault `text`
abbrev pub migrating : Option Members → Result (Option Members) Fault
migrating None = Err (file_fault Text)
migrating (Some doc) = unless_refused (first_broken (project_rules doc)) (Some (raised doc))

-- what the bytes of a project file are migrated to: the raised document, or the refusal
abbrev pub migrating_bytes : List ℕ → Result (Option Members) Fault
migrating_bytes bytes = migrating (document_of bytes)
