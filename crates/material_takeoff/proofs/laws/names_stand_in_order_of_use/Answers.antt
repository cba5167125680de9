use Rattle.material_takeoff.proofs.OrderOfUse.{IsDistinct-order_of_use, is_among-order_of_use, order_of_use-append}
use Rattle.material_takeoff.proofs.laws.names_stand_in_order_of_use.Goals as goal

pub returns : goal.returns
returns c = record {
  once = IsDistinct-order_of_use;
  same = λ names name. is_among-order_of_use name names;
  behind = order_of_use-append;
}
