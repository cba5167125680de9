-- What accepted words ask for, wherever the words lie in memory.
use Rattle.std.specs.Prelude.{option_map}
use Rattle.command_words.specs.declared.commands.Command.{Command as CommandWords}
use Rattle.command_words.specs.declared.commands.Command.TheVariants.{Pick, Migrate, Friction, Design, Check, Make, Certify, Verify, Takeoff, Edit}
use Rattle.command_words.specs.declared.commands.DesignWords.{DesignWords}
use Rattle.command_words.specs.declared.commands.FileWord.{FileWord}
use Rattle.command_words.specs.declared.commands.FrictionWords.{FrictionWords as Words}
use Rattle.command_words.specs.declared.commands.TakeoffWords.{TakeoffWords}
use Rattle.command_words.specs.declared.commands.VerifyWords.{VerifyWords}
use Rattle.command_words.specs.declared.words.Asked.{Asked as AskedWords}
use Rattle.command_words.specs.Commands.{Command, pick, migrate, friction, design, check, make, certify, verify, takeoff, edit, DesignFiles, FrictionWords, VerifyFiles, TakeoffFiles, NamedFile, named}
use Rattle.command_words.specs.Words.{Asked}

-- the words of `friction`
abbrev pub friction_seen : Words → FrictionWords
friction_seen words = record {
  sizes = words.sizes.now;
  ducts = words.ducts.now;
  density = words.density;
  viscosity = words.viscosity;
}

-- the files of a project
abbrev pub design_seen : DesignWords → DesignFiles
design_seen words = record {
  project = words.project.now;
  sizes = words.sizes.now;
  friction = words.friction.now;
  fittings = words.fittings.now;
  fans = words.fans.now;
  return_fans = option_map (λ name. name.now) words.return_fans;
}

-- the files of `verify`
abbrev pub verify_seen : VerifyWords → VerifyFiles
verify_seen words = record {
  network = words.network.now;
  certificate = words.certificate.now;
  design = option_map (λ name. name.now) words.design;
}

-- the files of `takeoff`
abbrev pub takeoff_seen : TakeoffWords → TakeoffFiles
takeoff_seen words = record { project = words.project.now; design = words.design.now }

-- the command
abbrev pub command_seen : CommandWords → Command
command_seen (Pick network) = pick network.now
command_seen (Migrate project) = migrate project.now
command_seen (Friction words) = friction (friction_seen words)
command_seen (Design words) = design (design_seen words)
command_seen (Check words text) = check (design_seen words) text.now
command_seen (Make n) = make n
command_seen (Certify network) = certify network.now
command_seen (Verify words) = verify (verify_seen words)
command_seen (Takeoff words) = takeoff (takeoff_seen words)
command_seen (Edit words script) = edit (design_seen words) script.now

-- the command, and how many workers condense
abbrev pub asked_seen : AskedWords → Asked
asked_seen asked = record { command = command_seen asked.command; workers = asked.workers }

-- a file that a word names
abbrev pub file_seen : FileWord → NamedFile
file_seen file = named file.kind file.name.now
