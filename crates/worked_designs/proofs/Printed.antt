-- The printed text of each network: both sides compute to the same bytes.
use Rattle.std.proofs.Common.{◌≡◌, refl}
use Rattle.std.specs.Fmt.{digits}
use Rattle.std.specs.Prelude.{[]}
use Rattle.duct_units.specs.Lines.{line}
use Rattle.duct_definitions.specs.DesignText.{text, listed, none_text}
use Rattle.worked_designs.specs.EarlierFan
use Rattle.worked_designs.specs.EarlierOfTwo
use Rattle.worked_designs.specs.EarlierReturnFan
use Rattle.worked_designs.specs.ExpensiveSize
use Rattle.worked_designs.specs.FanOnEachSide
use Rattle.worked_designs.specs.FanTooWeak
use Rattle.worked_designs.specs.FirstSection
use Rattle.worked_designs.specs.LowVelocity
use Rattle.worked_designs.specs.MissingPair
use Rattle.worked_designs.specs.NoFan
use Rattle.worked_designs.specs.NoFanCoversBoth
use Rattle.worked_designs.specs.NoReturnSide
use Rattle.worked_designs.specs.OneFanFirst
use Rattle.worked_designs.specs.OneSection
use Rattle.worked_designs.specs.SharedPressure
use Rattle.worked_designs.specs.SmallSystem
use Rattle.worked_designs.specs.TieOfFans
use Rattle.worked_designs.specs.TwoFansCheaper
use Rattle.worked_designs.specs.TwoSides

pub one_section : text (listed OneSection.network OneSection.design) ≡ OneSection.printed
unfolding line digits
one_section = refl

pub fan_too_weak : none_text FanTooWeak.network.name [] ≡ FanTooWeak.printed
unfolding line digits
fan_too_weak = refl

pub no_fan : none_text NoFan.network.name [] ≡ NoFan.printed
unfolding line digits
no_fan = refl

pub two_sides : text (listed TwoSides.network TwoSides.design) ≡ TwoSides.printed
unfolding line digits
two_sides = refl

pub shared_pressure : text (listed SharedPressure.network SharedPressure.design) ≡ SharedPressure.printed
unfolding line digits
shared_pressure = refl

pub expensive_size : text (listed ExpensiveSize.network ExpensiveSize.design) ≡ ExpensiveSize.printed
unfolding line digits
expensive_size = refl

pub missing_pair : text (listed MissingPair.network MissingPair.design) ≡ MissingPair.printed
unfolding line digits
missing_pair = refl

pub tie_of_fans : text (listed TieOfFans.network TieOfFans.design) ≡ TieOfFans.printed
unfolding line digits
tie_of_fans = refl

pub earlier_fan : text (listed EarlierFan.network EarlierFan.design) ≡ EarlierFan.printed
unfolding line digits
earlier_fan = refl

pub first_section : text (listed FirstSection.network FirstSection.design) ≡ FirstSection.printed
unfolding line digits
first_section = refl

pub small_system : text (listed SmallSystem.network SmallSystem.design) ≡ SmallSystem.printed
unfolding line digits
small_system = refl

pub second_small_system : text (listed SmallSystem.network SmallSystem.second_design) ≡ SmallSystem.second_printed
unfolding line digits
second_small_system = refl

pub low_velocity : none_text LowVelocity.network.name LowVelocity.refusals ≡ LowVelocity.printed
unfolding line digits
low_velocity = refl

pub fan_on_each_side : text (listed FanOnEachSide.network FanOnEachSide.design) ≡ FanOnEachSide.printed
unfolding line digits
fan_on_each_side = refl

pub two_fans_cheaper : text (listed TwoFansCheaper.network TwoFansCheaper.design) ≡ TwoFansCheaper.printed
unfolding line digits
two_fans_cheaper = refl

pub one_fan_first : text (listed OneFanFirst.network OneFanFirst.design) ≡ OneFanFirst.printed
unfolding line digits
one_fan_first = refl

pub earlier_of_two : text (listed EarlierOfTwo.network EarlierOfTwo.design) ≡ EarlierOfTwo.printed
unfolding line digits
earlier_of_two = refl

pub earlier_return_fan : text (listed EarlierReturnFan.network EarlierReturnFan.design) ≡ EarlierReturnFan.printed
unfolding line digits
earlier_return_fan = refl

pub no_fan_covers_both : text (listed NoFanCoversBoth.network NoFanCoversBoth.design) ≡ NoFanCoversBoth.printed
unfolding line digits
no_fan_covers_both = refl

pub no_return_side : text (listed NoReturnSide.network NoReturnSide.design) ≡ NoReturnSide.printed
unfolding line digits
no_return_side = refl

pub ruleset small_systems = (small_system, second_small_system)
