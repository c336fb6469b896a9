-- What turns make of two linked trees in memory.
use Rattle.std.specs.Prelude.{ℕ, ◌≡◌, List}
use Rattle.tanglegram.specs.Tree.{Tree}
use Rattle.tanglegram.specs.Run.{run, onward, ComesTo}
use Rattle.tanglegram.specs.Table.{Layouts, crossings, free}
use Rattle.work_linked_trees.specs.Memory.{here, layouts_from, InMemory}

module _ (t u : Tree) (n : ℕ) (links : List ℕ) where
  -- The turns of a run after the first, which led to the layouts `at`.
  pub record GoneOn (at : Layouts) (allowance last turns settled : ℕ) (L l R r : List ℕ) : Type 0 where
    pub ran : let T = here t u n links in
        ComesTo (crossings T) (onward (crossings T) (free T) allowance at) last turns settled (layouts_from l r)
    pub in_memory : InMemory t u n links L l R r

  -- A run from the layouts `at` under an allowance.
  pub record RunTaken (at : Layouts) (allowance first last turns settled : ℕ) (L l R r : List ℕ) : Type 0 where
    pub first_count : first ≡ crossings (here t u n links) at
    pub ran : let T = here t u n links in
        ComesTo (crossings T) (run (crossings T) (free T) allowance at) last turns settled (layouts_from l r)
    pub in_memory : InMemory t u n links L l R r
