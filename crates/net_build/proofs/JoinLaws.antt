-- How a reading goes on section by section.
use Rattle.std.proofs.Common.{◌≡◌, ℕ, ◌-◌, ◌<◌, List, Option, Some, None, Ok, Err, refl, ap, sym, ◌∙◌}
use Rattle.std.specs.List.{range_with_len, flat_map}
use Rattle.duct_units.specs.declared.fault.Fault.{Fault}
use Rattle.duct_units.specs.declared.fault.ReadError.{ReadError}
use Rattle.duct_units.specs.declared.fault.ReadError.TheVariants.{Refused, NoMemory}
use Rattle.duct_units.specs.Rules.{Rule, Fails, first_broken, unless_refused}
use Rattle.duct_units.proofs.RuleLaws.{broken_here}

-- a section was accepted
pub accepted : {Y : Type 0} (o : Option Fault) (value x : Y) → unless_refused o value ≡ Ok x → (o ≡ None) × (value ≡ x)
accepted None value x e = (refl, cc)
accepted (Some fault) value x e = absurd (cc e)

refusal : {Y : Type 0} (o : Option Fault) (value : Y) (fault : Fault) → unless_refused o value ≡ Err fault → o ≡ Some fault
refusal None value fault e = absurd (cc e)
refusal (Some other) value fault e = (let same : other ≡ fault = cc in ap (λ f. Some f) same)

-- a section was refused: so is the whole
pub refused-here : {X Y : Type 0} (f : ℕ → List Rule) (s n : ℕ) (whole : Option Fault) (error : ReadError) (x : X) (value : Y) → s < n → first_broken (flat_map f (range_with_len s (n - s))) ≡ whole
    → Fails error (unless_refused (first_broken (f s)) x) → Fails error (unless_refused whole value)
refused-here f s n whole (Refused fault) x value less rest fails =
    ap (λ o. unless_refused o value) (sym rest ∙ broken_here f s n fault less (refusal (first_broken (f s)) x fault fails))
refused-here f s n whole NoMemory x value less rest fails = fails

-- a refusal is the same, whatever the value would be
pub refused-alike : {X Y : Type 0} (o : Option Fault) (error : ReadError) (x : X) (y : Y) → Fails error (unless_refused o x) → Fails error (unless_refused o y)
refused-alike o (Refused fault) x y fails = ap (λ o. unless_refused o y) (refusal o x fault fails)
refused-alike o NoMemory x y fails = fails
