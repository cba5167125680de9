-- Design texts, and the first bad line of bytes that are none.
--   IsTextOf l bytes         the bytes are the text of these fields, which are in range
--   first_lines n bytes      the first n lines, each with its line feed, where there are so many
--   Begins Is n bytes        a text of this kind begins with the first n lines of the bytes
--   IsFirstBad Is n bytes    line n is the first with which no text of this kind begins
use Rattle.std.specs.Prelude.{◌≡◌, ℕ, zero, suc, ◌<◌, ◌≤◌, List, [], ◌∷◌, ◌++◌, length, Option, Some, IsTrue, IfSome}
use Rattle.std.specs.List.{AllByRecursion}
use Rattle.duct_units.specs.Options.{◌>>=◌}
use Rattle.duct_units.specs.Name.{is_name}
use Rattle.duct_units.specs.Rules.{line_fault}
use Rattle.duct_units.specs.declared.fault.Fault.{Fault}
use Rattle.duct_units.specs.declared.fault.Reason.TheVariants.{Form}
use Rattle.duct_units.specs.declared.fault.ReadError.{ReadError}
use Rattle.duct_units.specs.declared.fault.ReadError.TheVariants.{Refused, NoMemory}
use Rattle.line_words.specs.Words.{cut}
use Rattle.duct_definitions.specs.declared.limits.TheConstants.{MAX_SECTIONS}
use Rattle.duct_definitions.specs.declared.listed.Listed.{Listed}
use Rattle.duct_definitions.specs.declared.listed.ListedFan.{ListedFan}
use Rattle.duct_definitions.specs.declared.listed.ListedSection.{ListedSection}
use Rattle.duct_definitions.specs.DesignText.{first_fan, text}
use Rattle.design_text.specs.declared.words.TheConstants.{MAX_NUMBER}

-- the fields of a fan's line are in range
pub record IsListedFan (fan : ListedFan) : Type 0 where
  pub name : IsTrue (is_name fan.name)
  pub pressure : fan.pressure ≤ MAX_NUMBER
  pub cost : fan.cost ≤ MAX_NUMBER

-- the fields of a section's line are in range
pub record IsListedSection (s : ListedSection) : Type 0 where
  pub name : IsTrue (is_name s.name)
  pub size : IsTrue (is_name s.size)
  pub loss : s.loss ≤ MAX_NUMBER
  pub price : s.price ≤ MAX_NUMBER
  pub damper : s.damper ≤ MAX_NUMBER

-- 1 to 500 sections, names, and numbers of at most 18 digits
pub record IsInRange (l : Listed) : Type 0 where
  pub project : IsTrue (is_name l.project)
  pub fan : IsListedFan (first_fan l)
  pub back : IfSome l.back IsListedFan
  pub supply_worst : l.supply_worst ≤ MAX_NUMBER
  pub supply_head : l.supply_head ≤ MAX_NUMBER
  pub return_worst : l.return_worst ≤ MAX_NUMBER
  pub return_head : l.return_head ≤ MAX_NUMBER
  pub some : 1 ≤ length l.sections
  pub few : length l.sections ≤ MAX_SECTIONS
  pub sections : AllByRecursion IsListedSection l.sections
  pub total : l.total ≤ MAX_NUMBER

-- the bytes are the text of these fields, which are in range
pub record IsTextOf (l : Listed) (bytes : List ℕ) : Type 0 where
  pub in_range : IsInRange l
  pub spelled : bytes ≡ text l

-- the bytes are a design text
abbrev pub IsDesignText : List ℕ → Type 0
IsDesignText bytes = (l : Listed) × IsTextOf l bytes

-- the first n lines, each with its line feed, where there are so many
unfoldable pub first_lines : ℕ → List ℕ → Option (List ℕ)
first_lines zero bytes = Some []
first_lines (suc n) bytes = cut 10 bytes >>= λ line. first_lines n line.1 >>= λ more. Some (line.0 ++ 10 ∷ more)

-- a text of this kind begins with the first n lines of the bytes
pub record Begins (Is : List ℕ → Type 0) (n : ℕ) (bytes : List ℕ) : Type 0 where
  pub lines : List ℕ
  pub first : first_lines n bytes ≡ Some lines
  pub rest : List ℕ
  pub is : Is (lines ++ rest)

-- a text of this kind begins with the lines before line n, and none with line n; bytes that end early have no line
-- there
pub record IsFirstBad (Is : List ℕ → Type 0) (n : ℕ) (bytes : List ℕ) : Type 0 where
  pub before : (i : ℕ) → i < n → Begins Is i bytes
  pub bad : Begins Is n bytes → ⊥

-- the bytes are no design text, and the fault is that of their first bad line
pub record NamesBadLine (bytes : List ℕ) (fault : Fault) : Type 0 where
  pub none : IsDesignText bytes → ⊥
  pub line : ℕ
  pub says : fault ≡ line_fault line Form
  pub first : IsFirstBad IsDesignText line bytes

-- a refusal names the first bad line; memory may run out at any point
abbrev pub IsRefusal : List ℕ → ReadError → Type 0
IsRefusal bytes NoMemory = Unit {0}
IsRefusal bytes (Refused fault) = NamesBadLine bytes fault
