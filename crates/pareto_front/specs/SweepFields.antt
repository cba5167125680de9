-- How far two fronts are read.
use Rattle.pareto_front.specs.Sweep.{Progress}
use Rattle.pareto_front.specs.declared.sweep.Reading.{Reading}

-- the points of both fronts, and how many of each are read
abbrev pub progress_of : Reading → Reading → Progress
progress_of left right = record {
  left = left.points.now;
  right = right.points.now;
  left_read = left.read;
  right_read = right.read;
}
