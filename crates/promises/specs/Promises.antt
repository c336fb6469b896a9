-- All that is promised of the calls, on one screen.
use Rattle.promises.specs.Demand1.{Demand1}
use Rattle.promises.specs.Demand2.{Demand2}
use Rattle.promises.specs.Demand3.{Demand3}
use Rattle.promises.specs.Entanglement.{Entanglement}
use Rattle.promises.specs.HandsTwice.{HandsTwice}
use Rattle.promises.specs.Newick.{Newick}
use Rattle.promises.specs.Merge.{Merge}
use Rattle.promises.specs.TakeIn.{TakeIn}
use Rattle.promises.specs.Sheet.{SheetPromise}
use Rattle.promises.specs.Examples.{Examples}
use Rattle.promises.specs.Tried.{Tried}

pub record Promises : Type 0 where
  -- Every call answers or refuses in one way only; a refused call changes nothing, and 7 and 8 say which row is bad; a held side is never
  -- moved, nor is a pinned row turned over.
  pub demand1 : Demand1
  -- Orders and crossings are the published ones; freeing is least, row by row; what is packed is read out the same, and what is read is
  -- packed the same.
  pub demand2 : Demand2
  -- A run's turns alternate, never raise the count, are few, and end settled in time; settled is least on either side alone.
  pub demand3 : Demand3
  -- D, W and their ratio, and its root in thousandths; a row that is turned over by hand twice is as it was.
  pub entanglement : Entanglement
  pub hands_twice : HandsTwice
  -- Newick text is read and refused by its grammar, and what is written is read back the same.
  pub newick : Newick
  -- Merge tables are refused for what the tree rule refuses and for nothing else, and tables and rows are the same there and back.
  pub merge : Merge
  -- An order is taken in exactly if a permitted layout gives it; the bytes answered are the only ones, and least is said exactly if no
  -- permitted choice crosses less.
  pub take_in : TakeIn
  -- The sheet that is printed says this and nothing else: its lines in their order, for any bytes.
  pub sheet : SheetPromise
  -- The examples come out as the customer has them.
  pub examples : Examples
  -- Wrong outcomes are excluded.
  pub tried : Tried
