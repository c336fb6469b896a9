-- `newick_read`: each test where the definition has it, and the rows once all are passed.
use Rattle.std.specs.Option.{ok_or}
use Rattle.std.proofs.Common.{refl, sym, Err, None, Option, Some, ℕ, ◌∙◌, ◌≡◌}
use Rattle.std.proofs.lemmas.Result.{err_from_is_err_and}
use Rattle.record_fields.specs.declared.refusal.Refusal.{Refusal}
use Rattle.work_newick_reading.proofs.NotesView.{uncounted}
use Rattle.calls_newick.specs.Refusals.{said}
use Rattle.calls_newick.proofs.TextRead.{Counted, text-counted, grammar_broken, grammar_kept, too_many, is-count}
use Rattle.calls_newick.proofs.TextRead.{unnumbered, numbered, rows-said, length-said}
use Rattle.calls_newick.proofs.Outcomes.{read-no_grammar, read-no_leaves, read-no_room, read-accepted}
use Rattle.calls_newick.proofs.reading.newick_read.Goals.{In_ok-n}
use Rattle.calls_newick.proofs.reading.newick_read.Goals as goal

found : (c : In_ok-n) → Counted c.args.text.now c.read_text.new.notes c.in_ok-n.n
found c =
    text-counted _ _ _ (grammar_kept _ _ c.new-notes.ensures c.read_text.ensures c.if-not-read_text.false)
    (sym c.in_ok-n.ensures.ok_part ∙ c.leaf_count.ensures)

its_error : {r e : Refusal} (o : Option ℕ) → Err r ≡ ok_or o e → r ≡ e
its_error None h = cc
its_error (Some n) h = absurd (cc)

pub returns-then-not-read_text : goal.returns-then-not-read_text
returns-then-not-read_text c = read-no_grammar _ _ (grammar_broken _ _ c.new-notes.ensures c.read_text.ensures c.if-not-read_text.true)

pub returns-in_err-n : goal.returns-in_err-n
returns-in_err-n c =
    let p = err_from_is_err_and c.from_residual.result c.from_residual.ensures.1 in
    let k = grammar_kept _ _ c.new-notes.ensures c.read_text.ensures c.if-not-read_text.false in
    let e = uncounted _ (sym c.in_err-n.ensures.ok_part ∙ c.leaf_count.ensures) in
    rw (p.1, p.2, its_error _ c.in_err-n.ensures.value) (read-no_leaves _ _ k.0 (too_many (said c.args.text.now) _ k.1 _ e refl))

pub returns-then-not-leaves_once : goal.returns-then-not-leaves_once
returns-then-not-leaves_once c =
    let f = found (goal.at.returns-then-not-leaves_once c).In_ok-n in
    read-no_leaves _ _ f.kept
    (unnumbered (said c.args.text.now) _ f.its-notes _ f.is-n f.some (sym c.leaves_once.ensures ∙ c.if-not-leaves_once.true))

pub returns-then-out-n : goal.returns-then-out-n
returns-then-out-n c =
    let s = said c.args.text.now in
    let f = found (goal.at.returns-then-out-n c).In_ok-n in
    let once = sym c.leaves_once.ensures ∙ c.if-not-leaves_once.false in
    read-no_room _ _ f.kept (numbered s _ f.its-notes _ f.is-n f.some once) _ (length-said s _ f.its-notes _ f.is-n f.some) c.if-out-n.true

pub returns : goal.returns
returns c =
    let s = said c.args.text.now in
    let f = found (goal.at.returns c).In_ok-n in
    let once = sym c.leaves_once.ensures ∙ c.if-not-leaves_once.false in
    read-accepted _ _ f.kept (numbered s _ f.its-notes _ f.is-n f.some once) _ (length-said s _ f.its-notes _ f.is-n f.some)
    (is-count s _ f.its-notes _ f.is-n f.some) (rows-said s _ f.its-notes _ f.is-n f.some once) c.if-out-n.false c.rows_out.ensures
