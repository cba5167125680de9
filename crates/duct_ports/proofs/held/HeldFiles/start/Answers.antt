use Rattle.std.proofs.Common.{◌≡◌, ◌∙◌, ap}
use Rattle.std.specs.Prelude.{is_some, position}
use Rattle.std.specs.Str.{bytes_eq}
use Rattle.duct_ports.proofs.HeldLemmas.{found_by_place}
use Rattle.duct_ports.specs.declared.held.HeldFile.{HeldFile}
use Rattle.duct_ports.proofs.held.HeldFiles.start.Goals as goal

pub returns-clause-held : goal.returns-clause-held
returns-clause-held c =
    let is_named = λ (file : HeldFile). bytes_eq file.name c.args.name.now in
    let same_files : c.as_slice-files.result.now ≡ c.args.self.now.files =
    c.as_slice-files.ensures ∙ ap (λ opened. opened.files) c.self.view_is in
    let place : c.place_of-place.result ≡ position is_named c.args.self.now.files =
    c.place_of-place.ensures ∙ ap (position is_named) same_files in
    c.is_some.ensures ∙ ap is_some place ∙ found_by_place is_named c.args.self.now.files
