-- The parts of a network, apart.
use Rattle.duct_definitions.specs.Network.{Network as NetworkData}
use Rattle.net_model.specs.declared.network.NetworkParts.{NetworkParts}

-- each part is what the network has in its place
abbrev pub parts_of : NetworkData → NetworkParts
parts_of net = record {
  name = net.name;
  tree = net.tree;
  names = net.names;
  sizes = net.sizes;
  pairs = net.pairs;
  fans = net.fans;
  return_fans = net.return_fans;
}
