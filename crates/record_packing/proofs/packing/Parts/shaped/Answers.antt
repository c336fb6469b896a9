-- `shaped` answers the first of the refusals of the hold, n and the lengths, or keeps what was given.
use Rattle.std.proofs.Common.{ap, arith, sym, ◌∙◌}
use Rattle.std.proofs.lemmas.Result.{err_from_is_err_and}
use Rattle.record_fields.specs.Fields.{given}
use Rattle.record_fields.specs.Refused.{refused}
use Rattle.record_fields.proofs.Heading.{sized}
use Rattle.record_packing.proofs.Packed.{ShapedParts, shape_0, shape_4, shape_5, shape_6}
use Rattle.record_packing.proofs.packing.Parts.shaped.Goals.{then-left-m-via-then-left-m, then-left-m-via-else-left-m+then-right-m}
use Rattle.record_packing.proofs.packing.Parts.shaped.Goals.{then-left-m-via-else-left-m+else-right-m+then-links-n}
use Rattle.record_packing.proofs.packing.Parts.shaped.Goals.{then-left-m-via-else-left-m+else-right-m+else-links-n+then-leftlayout-m}
use Rattle.record_packing.proofs.packing.Parts.shaped.Goals.{
  then-left-m-via-else-left-m+else-right-m+else-links-n+else-leftlayout-m+then-rightlayout-m,
}
use Rattle.record_packing.proofs.packing.Parts.shaped.Goals.{Else-rightlayout-m}
use Rattle.record_packing.proofs.packing.Parts.shaped.Goals as goal

pub returns-in_err-hold-clause-tells : goal.returns-in_err-hold-clause-tells
returns-in_err-hold-clause-tells c =
    let p = err_from_is_err_and c.from_residual.result c.from_residual.ensures.1 in
    let r = c.in_err-hold.ensures in
    rw (p.1, p.2, r.1) (ap refused (shape_4 _ r.0))

pub returns-then-no_size-clause-tells : goal.returns-then-no_size-clause-tells
returns-then-no_size-clause-tells c =
    ap refused (shape_5 _ c.in_ok-hold.ensures.0 (sym c.no_size.ensures ∙ c.if-no_size.true))

pub overflow_sub-m : goal.overflow_sub-m
overflow_sub-m c =
    let h = sized _ (sym c.no_size.ensures ∙ c.if-no_size.false) in
    omega arith

pub returns-then-left-m-clause-tells : goal.returns-then-left-m-clause-tells
returns-then-left-m-clause-tells c =
    let P = given c.args.hold c.args.n c.args.left.now c.args.right.now c.args.links.now c.args.leftlayout.now c.args.rightlayout.now in
    let wrong : ShapedParts P → ⊥ = λ g.
    elim c.then-left-m.branch [
      | then-left-m-via-then-left-m w ↦ w.if-left-m.true g.left_long
      | then-left-m-via-else-left-m+then-right-m w ↦ w.if-right-m.true g.right_long
      | then-left-m-via-else-left-m+else-right-m+then-links-n w ↦ w.if-links-n.true g.links_long
      | then-left-m-via-else-left-m+else-right-m+else-links-n+then-leftlayout-m w ↦ w.if-leftlayout-m.true g.left_layout_long
      | then-left-m-via-else-left-m+else-right-m+else-links-n+else-leftlayout-m+then-rightlayout-m w ↦ w.if-rightlayout-m.true g.right_layout_long
    ] in
    ap refused (shape_6 P c.in_ok-hold.ensures.0 (sym c.no_size.ensures ∙ c.if-no_size.false) wrong)

all-shaped : (c : Else-rightlayout-m) →
    let a = c.args in
    ShapedParts (given a.hold a.n a.left.now a.right.now a.links.now a.leftlayout.now a.rightlayout.now)
all-shaped c =
    let z = sized _ (sym c.no_size.ensures ∙ c.if-no_size.false) in
    record {
      some = z.0;
      most = z.1;
      left_long = c.if-left-m.false;
      right_long = c.if-right-m.false;
      links_long = c.if-links-n.false;
      left_layout_long = c.if-leftlayout-m.false;
      right_layout_long = c.if-rightlayout-m.false;
    }

pub invariant_of-result : goal.invariant_of-result
invariant_of-result c = all-shaped c

pub returns-clause-tells : goal.returns-clause-tells
returns-clause-tells c = ap refused (sym (shape_0 _ c.in_ok-hold.ensures.0 (all-shaped c)))
