-- A reader that reads one part after another.
use Rattle.std.proofs.Common.{◌≡◌, ℕ, ◌+◌, List, ◌++◌, Option, Some, None, Result, Ok, Err, refl, ap, ◌∙◌, sym, subst}
use Rattle.duct_units.specs.declared.fault.Fault.{Fault}
use Rattle.duct_units.specs.declared.fault.ReadError.{ReadError}
use Rattle.duct_units.specs.declared.fault.ReadError.TheVariants.{Refused, NoMemory}
use Rattle.duct_units.specs.Rules.{Rule, first_broken, or_else, unless_refused, Fails, Gives}
use Rattle.duct_units.proofs.RuleLaws.{first_broken-append}
use Rattle.std.specs.Prelude.{slice_get}
use Rattle.file_definitions.specs.Elements.{each}
use Rattle.section_tables.proofs.StepLaws.{HoldBefore, numbered, numbered_broken}

-- the error is the first broken rule of these, or memory ran out
abbrev pub Stops : ReadError → List Rule → Type 0
Stops (Refused fault) rules = first_broken rules ≡ Some fault
Stops NoMemory rules = Unit {0}

why : {X : Type 0} (refusal : Option Fault) (x : X) (fault : Fault) → unless_refused refusal x ≡ Err fault → refusal ≡ Some fault
why None x fault e = cc
why (Some other) x fault e = cc

pub stops_from : {X : Type 0} (error : ReadError) (rules : List Rule) (x : X) → Fails error (unless_refused (first_broken rules) x) → Stops error rules
stops_from (Refused fault) rules x e = why (first_broken rules) x fault e
stops_from NoMemory rules x e = tt

pub stops_gives : {X : Type 0} (error : ReadError) (rules : List Rule) (x : X) → Stops error rules → Fails error (unless_refused (first_broken rules) x)
stops_gives (Refused fault) rules x e = ap (λ o. unless_refused o x) e
stops_gives NoMemory rules x e = tt

-- a part that stops is followed by others
pub stops_first : (error : ReadError) (a b : List Rule) → Stops error a → Stops error (a ++ b)
stops_first (Refused fault) a b e = first_broken-append a b ∙ ap (λ o. or_else o (first_broken b)) e
stops_first NoMemory a b e = tt

-- or comes after some that hold
pub stops_later : (error : ReadError) (a b : List Rule) → first_broken a ≡ None → Stops error b → Stops error (a ++ b)
stops_later (Refused fault) a b none e = first_broken-append a b ∙ ap (λ o. or_else o (first_broken b)) none ∙ e
stops_later NoMemory a b none e = tt

pub all_hold : (a b : List Rule) → first_broken a ≡ None → first_broken b ≡ None → first_broken (a ++ b) ≡ None
all_hold a b none too = first_broken-append a b ∙ ap (λ o. or_else o (first_broken b)) none ∙ too

-- what a part gave, where it did
pub given : {X : Type 0} (refusal : Option Fault) (value got : X) → unless_refused refusal value ≡ Ok got → (refusal ≡ None) × (got ≡ value)
given None value got e = (refl, cc)
given (Some fault) value got e = cc

-- an element stops the reader where those before it hold
pub each_stops : {A : Type 0} (error : ReadError) (own : ℕ → A → List Rule) (xs : List A) (i : ℕ) (x : A)
    → HoldBefore (numbered own) xs i → slice_get xs i ≡ Some x → Stops error (own (i + 1) x) → Stops error (each (numbered own) xs)
each_stops (Refused fault) own xs i x so_far at e = numbered_broken own xs i x fault so_far at e
each_stops NoMemory own xs i x so_far at e = tt

-- the last part, after some that hold
pub gives_later : {X : Type 0} (result : Result X ReadError) (a b : List Rule) (x : X) → first_broken a ≡ None → Gives result (unless_refused (first_broken b) x) → Gives result (unless_refused (first_broken (a ++ b)) x)
gives_later (Ok got) a b x none e = ap (λ o. unless_refused o x) (first_broken-append a b ∙ ap (λ o. or_else o (first_broken b)) none) ∙ e
gives_later (Err error) a b x none e = stops_gives error (a ++ b) x (stops_later error a b none (stops_from error b x e))

-- ---- what a part read, by the document

-- no rule of the part is broken, and this is its value
abbrev pub IsRead : {X : Type 0} → List Rule → X → X → Type 0
IsRead rules value got = (first_broken rules ≡ None) × (got ≡ value)

-- the rules and the value of the part, from what was read before it
pub read_as : {A X : Type 0} (rules : A → List Rule) (value : A → X) (read said : A) (got : X) → read ≡ said → unless_refused (first_broken (rules read)) (value read) ≡ Ok got
    → IsRead (rules said) (value said) got
read_as rules value read said got same e = given (first_broken (rules said)) (value said) got (ap (λ a. unless_refused (first_broken (rules a)) (value a)) (sym same) ∙ e)

-- and why it stopped
pub stops_as : {A X : Type 0} (error : ReadError) (rules : A → List Rule) (value : A → X) (read said : A) → read ≡ said → Fails error (unless_refused (first_broken (rules read)) (value read))
    → Stops error (rules said)
stops_as error rules value read said same fails = subst (λ a. Stops error (rules a)) same (stops_from error (rules read) (value read) fails)
