-- `entries`: the parts between commas are read one by one, and each has its place in the list.
use Rattle.std.proofs.Common.{arith, refl, sym, length-set, ◌∙◌}
use Rattle.std.proofs.lemmas.Fn.{says_at}
use Rattle.desk_words.proofs.Listing.{listed_none, listed_more, listed_bad, listed_full, listed_all, dash-said, shorter}
use Rattle.desk_words.proofs.Filling.{puts_empty}
use Rattle.desk_words.proofs.lists.entries.Goals as goal

pub returns-then-is_dash-clause-says : goal.returns-then-is_dash-clause-says
returns-then-is_dash-clause-says g c = λ said reads.
    let a = c.args in
    puts_empty a.out.now (dash-said said a.word.now (sym c.is_dash.ensures ∙ c.if-is_dash.true))

pub loop-rest-init : goal.loop-rest-init
loop-rest-init g c =
    let a = c.args in
    let other = sym c.is_dash.ensures ∙ c.if-is_dash.false in
    (omega arith, λ said reads. listed_none said a.word.now a.word a.out.now refl other)

pub returns-then-n-out-clause-says : goal.returns-then-n-out-clause-says
returns-then-n-out-clause-says g c = λ said reads.
    let a = c.args in
    let l = c.loop-rest in
    listed_full said a.word.now c.in-Some.text a.out.now l.n l.out (omega arith) (rw c.in-Some.is at (l.invariant.1 said reads))

pub returns-in_err-out-clause-says : goal.returns-in_err-out-clause-says
returns-in_err-out-clause-says g c = λ said reads.
    let a = c.args in
    let l = c.loop-rest in
    let none = reads _ _ (says_at g.F.Fn c.in_err-out.ensures refl) in
    rw c.from_residual.ensures
    (listed_bad said a.word.now c.in-Some.text _ _ c.cut.ensures a.out.now l.n l.out
    (rw c.in-Some.is at (l.invariant.1 said reads)) none)

pub loop-rest-preserved : goal.loop-rest-preserved
loop-rest-preserved g c =
    let a = c.args in
    let l = c.loop-rest in (
      simp length-set (omega arith),
      λ said reads.
          let some = reads _ _ (says_at g.F.Fn c.in_ok-out.ensures refl) in
          listed_more said a.word.now c.in-Some.text _ _ c.cut.ensures a.out.now l.n l.out
          (rw c.in-Some.is at (l.invariant.1 said reads)) _ some (omega arith),
    )

pub loop-rest-smaller : goal.loop-rest-smaller
loop-rest-smaller g c = rw c.in-Some.is (omega (arith, shorter c.in-Some.text.now _ _ c.cut.ensures))

pub returns-clause-says : goal.returns-clause-says
returns-clause-says g c = λ said reads.
    let a = c.args in
    let l = c.loop-rest in
    listed_all said a.word.now l.rest a.out.now l.n l.out c.in_default.is l.invariant.0 (l.invariant.1 said reads)
