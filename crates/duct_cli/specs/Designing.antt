-- The network of a project and its catalogues, as the words of `design` name them.
--   data_of bytes                       what the files say, or the first refusal in the order in which they are read
--   designing rules bytes               the network with how many pairs each rule refused, or the first refusal
use Rattle.std.specs.Prelude.{◌≡◌, ℕ, List, [], map, Option, Some, None, option_map, Result, Ok, Err}
use Rattle.std.specs.Option.{option_map_or}
use Rattle.duct_units.specs.Results.{◌>>=◌}
use Rattle.duct_units.specs.declared.fault.Fault.{Fault}
use Rattle.duct_units.specs.declared.side.Side.TheVariants.{Return}
use Rattle.duct_definitions.specs.declared.design.NetFan.{NetFan}
use Rattle.duct_definitions.specs.declared.listed.RuleCount.{RuleCount}
use Rattle.duct_definitions.specs.Airflow.{flow_on}
use Rattle.duct_definitions.specs.Network.{Network}
use Rattle.size_catalogue.specs.Reading.{sizes_of}
use Rattle.friction_table.specs.Reading.{friction_of}
use Rattle.fitting_tables.specs.Reading.{fittings_of}
use Rattle.fan_points.specs.declared.row.FanRow.{FanRow}
use Rattle.fan_points.specs.Reading.{fans_of}
use Rattle.project_file.specs.ProjectFile.{project_of}
use Rattle.design_rules.specs.Meanings.{Meaning}
use Rattle.net_build.specs.Built.{built}
use Rattle.net_build.specs.Fans.{offered}
use Rattle.command_words.specs.declared.commands.FileKind.{FileKind}
use Rattle.command_words.specs.declared.commands.FileKind.TheVariants.{Project as project_file, Sizes, Friction, Fittings, Fans, ReturnFans}
use Rattle.duct_cli.specs.declared.designing.DesignData.{DesignData}
use Rattle.duct_cli.specs.declared.designing.Refusal.{Refusal}
use Rattle.duct_cli.specs.declared.designing.Unread.{Unread}
use Rattle.duct_cli.specs.declared.designing.Unread.TheVariants as unread
use Rattle.command_words.specs.Commands.{DesignFiles}

-- what a file says, or its refusal
abbrev pub of_file : {A : Type 0} → FileKind → Result A Fault → Result A Refusal
of_file file (Ok value) = Ok value
of_file file (Err fault) = Err (record { file = file; fault = fault })

-- the rules that are handed in, by their meanings and their names
pub record Rules : Type 0 where
  pub meanings : List Meaning
  pub names : List (List ℕ)

-- the rules, of any type
abbrev pub rules_of : {B : Type 0} → (B → Meaning) → (B → List ℕ) → List B → Rules
rules_of allows label rules = record { meanings = map allows rules; names = map label rules }

-- what the files of these names hold
abbrev pub held_by : (List ℕ → List ℕ) → DesignFiles → DesignFiles
held_by contents files = record {
  project = contents files.project;
  sizes = contents files.sizes;
  friction = contents files.friction;
  fittings = contents files.fittings;
  fans = contents files.fans;
  return_fans = option_map contents files.return_fans;
}

-- the fans that are offered to the return side, where their file is named
abbrev pub return_fans_of : Option (List ℕ) → Result (Option (List FanRow)) Refusal
return_fans_of None = Ok None
return_fans_of (Some bytes) = of_file ReturnFans (fans_of bytes) >>= λ fans. Ok (Some fans)

-- what the bytes of the files say, or the first refusal in the order of the words
abbrev pub data_of : DesignFiles → Result DesignData Refusal
data_of bytes = do
  project ← of_file project_file (project_of bytes.project)
  sizes ← of_file Sizes (sizes_of bytes.sizes)
  friction ← of_file Friction (friction_of sizes bytes.friction)
  fittings ← of_file Fittings (fittings_of bytes.fittings)
  fans ← of_file Fans (fans_of bytes.fans)
  return_fans ← return_fans_of bytes.return_fans
  Ok (record {
    project = project;
    sizes = sizes;
    friction = friction;
    fittings = fittings;
    fans = fans;
    return_fans = return_fans;
  })

-- the fans that are offered to the return side at its airflow; none where no file is named
abbrev pub offered_back : DesignData → List NetFan
offered_back said = option_map_or (λ fans. offered fans said.project.energy (flow_on said.project.flows Return)) said.return_fans []

-- the network with the fans that are offered to the return side
abbrev pub with_return_fans : DesignData → Network → Network
with_return_fans said net = record net { return_fans = offered_back said }

-- the network with how many pairs each rule refused; or the first name that joins nothing
abbrev pub joined : Rules → DesignData → Result (Network × List RuleCount) Refusal
joined rules said =
    of_file project_file (built said.project (record { sizes = said.sizes; friction = said.friction; fittings = said.fittings })
    said.fans rules.meanings rules.names)
    >>= λ found. Ok (with_return_fans said found.0, found.1)

-- the same from the bytes of the files, or the first refusal
abbrev pub designing : Rules → DesignFiles → Result (Network × List RuleCount) Refusal
designing rules bytes = data_of bytes >>= joined rules

-- a call gave the value, or the refusal; or memory ran out
abbrev pub Yields : {A : Type 0} → Result A Unread → Result A Refusal → Type 0
Yields (Ok value) r = r ≡ Ok value
Yields (Err (unread.Refused refusal)) r = r ≡ Err refusal
Yields (Err unread.NoMemory) r = Unit {0}
