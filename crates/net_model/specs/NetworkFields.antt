-- The fields of a network, seen as its data.
use Rattle.duct_definitions.specs.Network.{Network as NetworkData}
use Rattle.net_model.specs.declared.network.Network.TheInside.{Inside}

-- the data of these fields
abbrev pub data_of : Inside → NetworkData
data_of a = record {
  name = a.name;
  tree = a.tree;
  names = a.names;
  sizes = a.sizes;
  pairs = a.pairs;
  fans = a.fans;
  return_fans = a.return_fans;
}
