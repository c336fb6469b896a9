-- `put`: the bytes are copied to the part that begins at their place.
use Rattle.std.proofs.Common.{ap, length, refl, ◌+◌, ◌-◌, ◌∙◌}
use borrow.Rule.Slice.PartMut.{put_mid}
use Rattle.work_text.proofs.putting.put.Goals as goal
use Rattle.work_text.proofs.Joined.{copied_put}

pub returns : goal.returns
returns c =
    let from = c.args.s.now in
    let at = c.args.at in
    record {
      ends = refl;
      within = c.requires;
      writes =
          ap (put_mid at (at + length from - at) c.args.out.now) c.copy_from_slice.ensures.after
          ∙ copied_put from c.args.out.now at c.requires;
    }
