use Rattle.std.proofs.Common.{◌≡◌, ◌≢◌, ◌⊎◌, ◌+◌, ◌≤◌, ◌++◌, max, drop, inl, inr, true, false, length, refl, sym, ap, subst, ◌∙◌}
use Rattle.std.specs.Prelude.{IsSomeAnd}
use Rattle.drafts.specs.Fates.{seen_in}
use Rattle.file_tree.specs.Apply.{overwritten}
use Rattle.gfs2_layout.specs.Inode.{dinode_in, height_in}
use Rattle.gfs2_layout.specs.Structures.{dinode_length}
use Rattle.gfs2_layout.specs.declared.dinode.Dinode.{Dinode}
use Rattle.growth_laws.specs.Need.{capacity}
use Rattle.growth_drafts.specs.Touched.{as_it_was}
use Rattle.growth_drafts.proofs.Following.{follows_draft, follows_one}
use Rattle.growth_steps.specs.Stuffed.{stuffed_bytes, stuffed_in}
use Rattle.growth_steps.proofs.Putting.{own_seen}
use Rattle.file_heights.proofs.Changing.{changes_of, changes_one}
use Rattle.file_heights.proofs.Pads.{pads_before, rewritten_own}
use Rattle.file_growth.specs.Written.{size_with}
use Rattle.file_growth.proofs.Writes.{goes_up, written_behind}
use Rattle.file_growth.proofs.writing.write_seen.Goals as goal
use Rattle.file_growth.proofs.writing.write_seen.Goals.{else-dinode-eq0-via-then-dinode-eq0+else-has_room, else-dinode-eq0-via-else-dinode-eq0}

pub returns-in_default-clause-within : goal.returns-in_default-clause-within
returns-in_default-clause-within g c = as_it_was c.args.draft.now.fates

pub returns-then-has_room-clause-within : goal.returns-then-has_room-clause-within
returns-then-has_room-clause-within g c =
    let there = c.in-Some.ensures.there in
    follows_draft (g.V.View.seen c.args.draft.now.view) c.args.inode c.args.room.now.items c.args.draft.now c.put_stuffed.new.draft _ (c.in_ok-put_stuffed.ensures.put there.0 there.1)
    (follows_one (g.V.View.seen c.args.draft.now.view) c.args.inode c.args.room.now.items c.args.draft.now.fates c.args.inode _ (inl refl))

pub returns-then-has_room-clause-written : goal.returns-then-has_room-clause-written
returns-then-has_room-clause-written g c h shown there can needs ways =
    let d_is : c.in-Some.dinode ≡ dinode_in h = subst (λ o. IsSomeAnd o (λ d. d ≡ dinode_in h)) c.in-Some.is (c.file_in.ensures.found h can.counted.file shown there) in
    let stuffed : height_in h ≡ 0 = sym (ap (λ (d : Dinode). d.height) d_is) ∙ c.if-dinode-eq0.true in
    let size : c.block_size-size.result ≡ h.size = c.block_size-size.ensures.value ∙ sym shown.size in
    let end : c.max.result ≡ size_with h (c.args.at + length c.args.bytes.now) = c.max.ensures ∙ ap (λ (d : Dinode). max d.size (c.args.at + length c.args.bytes.now)) d_is in
    let room : c.max.result ≤ capacity c.block_size-size.result 0 = c.has_room.ensures.0 c.if-has_room.true in
    let fits : size_with h (c.args.at + length c.args.bytes.now) ≤ capacity h.size 0 = subst (λ n. size_with h (c.args.at + length c.args.bytes.now) ≤ capacity n 0) size (subst (λ n. n ≤ capacity c.block_size-size.result 0) end room) in
    let seen = own_seen (seen_in g.V.View.seen c.args.draft.now) c.args.inode there.0 h shown there.1 in
    let over = overwritten c.args.at c.args.bytes.now (stuffed_in c.in-Some.dinode there.0) in
    let put = rewritten_own h (stuffed_bytes c.in-Some.dinode c.args.at c.args.bytes.now there.0) can.counted.file in
    let is = c.in_ok-put_stuffed.ensures.written h there.0 can.counted.file shown d_is stuffed there.1 in
    let behind = c.in_ok-put_stuffed.ensures.behind there.0 there.1 in
    let n_is : 232 + max c.in-Some.dinode.size (c.args.at + length c.args.bytes.now) ≡ 232 + size_with h (c.args.at + length c.args.bytes.now) = ap (λ (d : Dinode). 232 + max d.size (c.args.at + length c.args.bytes.now)) d_is in (
      refl,
      written_behind h _ c.args.at c.args.bytes.now c.args.room.now.items can fits (seen_in g.V.View.seen c.put_stuffed.new.draft) c.args.draft.now.fates c.put_stuffed.new.draft.fates c.args.inode shown.own is.0 is.1
          (pads_before h (record c.in-Some.dinode { size = max c.in-Some.dinode.size (c.args.at + length c.args.bytes.now) }) there.0 can.counted.file seen (over ++ drop (dinode_length + length over) there.0))
          (ap (drop (232 + size_with h (c.args.at + length c.args.bytes.now))) put
          ∙ subst (λ n. drop n (stuffed_bytes c.in-Some.dinode c.args.at c.args.bytes.now there.0) ≡ drop n there.0) n_is behind
          ∙ ap (drop (232 + size_with h (c.args.at + length c.args.bytes.now))) (sym seen))
          (changes_of c.args.draft.now c.put_stuffed.new.draft _ (λ b. b ≡ c.args.inode) (c.in_ok-put_stuffed.ensures.put there.0 there.1) (changes_one c.args.draft.now.fates c.args.inode _)),
    )

pub returns-clause-written : goal.returns-clause-written
returns-clause-written g c h shown there can needs ways =
    let d_is : c.in-Some.dinode ≡ dinode_in h = subst (λ o. IsSomeAnd o (λ d. d ≡ dinode_in h)) c.in-Some.is (c.file_in.ensures.found h can.counted.file shown there) in
    let size : c.block_size-size.result ≡ h.size = c.block_size-size.ensures.value ∙ sym shown.size in
    let either : (height_in h ≢ 0) ⊎ ((height_in h ≡ 0) × (size_with h (c.args.at + length c.args.bytes.now) ≤ capacity h.size 0 → ⊥)) = elim c.else-dinode-eq0.branch [
      | else-dinode-eq0-via-then-dinode-eq0+else-has_room w ↦ inr (
        sym (ap (λ (d : Dinode). d.height) d_is) ∙ w.if-dinode-eq0.true,
        λ fits.
            let end : w.max.result ≡ size_with h (c.args.at + length c.args.bytes.now) = w.max.ensures ∙ ap (λ (d : Dinode). max d.size (c.args.at + length c.args.bytes.now)) d_is in
            let fits' : w.max.result ≤ capacity c.block_size-size.result 0
            = subst (λ n. n ≤ capacity c.block_size-size.result 0) (sym end) (subst (λ n. size_with h (c.args.at + length c.args.bytes.now) ≤ capacity n 0) (sym size) fits) in
            let both : true ≡ false = sym (w.has_room.ensures.1 fits') ∙ w.if-has_room.false in
            absurd (cc),
      )
      | else-dinode-eq0-via-else-dinode-eq0 w ↦ inl (λ none. w.if-dinode-eq0.false (ap (λ (d : Dinode). d.height) d_is ∙ none))
    ] in
    c.write_blocks.ensures.written h shown d_is can needs (goes_up h (c.args.at + length c.args.bytes.now) can.counted.file c.requires.short either) ways
