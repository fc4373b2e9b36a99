use Rattle.std.proofs.Common.{◌≡◌, ◌∷◌, sym, ap, ◌∙◌, subst}
use Rattle.drafts.specs.Fates.{seen_in}
use Rattle.gfs2_layout.specs.Holding.{bytes_at}
use Rattle.glock_names.proofs.StepLaws.{answer_at}
use Rattle.hash_inserts.specs.Converting.{AreConverted, CanConvert}
use Rattle.hash_inserts.proofs.Converted.{can_convert, converts}
use Rattle.hash_inserts.proofs.Looks.{free_front}
use Rattle.hash_inserts.proofs.converting.to_hashed.Goals as goal

pub returns-clause-put : goal.returns-clause-put
returns-clause-put g c h shown sound directory linear few free some =
    let seen = g.V.View.seen in
    let old = c.args.draft.now in
    let b = c.in-Some.leaf in
    let has = answer_at _ _ _ c.in_default.is c.in_ok-missing.ensures.there in
    let front : c.args.room.now.items ≡ b ∷ c.pop_front.new.self.items = c.in-Some.ensures.items in
    let is_free = free_front h b c.args.room.now.items c.pop_front.new.self.items front free in
    let at_own : bytes_at h h.own ≡ has.0 = shown.same h.own has.0 shown.dinode (ap (seen_in seen old).block_at shown.own ∙ has.1) in
    let done = c.in_ok-done.ensures.put has.0 has.1 (subst CanConvert at_own (can_convert h sound directory linear b is_free few)) in
    let are = subst (λ bytes. AreConverted bytes done.1.0 done.1.1 b) (sym at_own) done.1.2 in (
      done.0,
      converts h sound directory linear b done.1.0 done.1.1 is_free are seen old c.convert_in.new.draft c.args.dir c.args.room.now.items c.pop_front.new.self.items shown done.1.3 front c.sound_inodes_are_shown.ensures c.conversions_stay.ensures,
    )
