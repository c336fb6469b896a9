-- All promises are kept.
use Rattle.promises.specs.Promises as Promises
use Rattle.promises.proofs.Demand1.{demand1}
use Rattle.promises.proofs.Demand2.{demand2}
use Rattle.promises.proofs.Demand3.{demand3}
use Rattle.promises.proofs.Entanglement.{entanglement}
use Rattle.promises.proofs.HandsTwice.{hands_twice}
use Rattle.promises.proofs.Newick.{newick}
use Rattle.promises.proofs.Merge.{merge}
use Rattle.promises.proofs.TakeIn.{take_in}
use Rattle.promises.proofs.Sheet.{sheet}
use Rattle.promises.proofs.Examples.{examples}
use Rattle.promises.proofs.Tried.{tried}

pub promises : Promises.Promises
promises = record {
  demand1 = demand1;
  demand2 = demand2;
  demand3 = demand3;
  entanglement = entanglement;
  hands_twice = hands_twice;
  newick = newick;
  merge = merge;
  take_in = take_in;
  sheet = sheet;
  examples = examples;
  tried = tried;
}
