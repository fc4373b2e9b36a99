use Rattle.std.proofs.Common.{◌≡◌, ◌<◌, ◌^◌, [], ◌∷◌, Some, refl, sym, ◌∙◌, subst, arith}
use Rattle.crc_words.specs.Remainder.{crc32_of}
use Rattle.image_model.proofs.Held.{none_some}
use Rattle.gfs2_layout.specs.Records.{Record}
use Rattle.glock_names.specs.Steps.{TellsOf}
use Rattle.glock_names.specs.Views.{IsOfView}
use Rattle.glock_names.proofs.StepLaws.{answer_at, needed_at}
use Rattle.drafts.specs.Fates.{seen_in}
use Rattle.linear_dirs.specs.Exchanges.{HasExchanged}
use Rattle.linear_dirs.specs.Shown.{holding_over}
use Rattle.linear_dirs.proofs.Looked.{handed}
use Rattle.hash_dirs.specs.Broken.{IsWrongIn}
use Rattle.hash_dirs.specs.Finding.{IsFoundAlong, in_this}
use Rattle.hash_dirs.specs.Shown.{IsShown, index_for, of_table}
use Rattle.hash_dirs.specs.Spots.{IsInPlace, IsSpotIn, entry_at}
use Rattle.hash_dirs.proofs.Along.{nowhere_named}
use Rattle.hash_dirs.proofs.Few.{few_kept, is_there, too_few}
use Rattle.hash_dirs.proofs.Leaves.{wrong_tells, damage_of, dinode_needed, found_at, head_at, index_is}
use Rattle.hash_dirs.proofs.Listed.{tells}
use Rattle.hash_dirs.proofs.Removed.{depth_kept, first_named_is, has_exchanged, sound_directory, still_shown, cut_from, pads_kept}
use Rattle.hash_dirs.proofs.removing.remove.Goals as goal

same : (r q : Record) → Some r ≡ Some q → r ≡ q
same r q e = cc

pub returns-in_err-head-clause-damaged : goal.returns-in_err-head-clause-damaged
returns-in_err-head-clause-damaged g c h shown shows =
    handed c.from_residual.result _ (TellsOf (IsWrongIn (seen_in g.V.View.seen c.args.draft.now) h)) c.from_residual.ensures.1 (wrong_tells (seen_in g.V.View.seen c.args.draft.now) h c.in_err-head.field-0.0 (tells h c.in_err-head.field-0.0 (damage_of h c.in_err-head.field-0.0 (c.in_err-head.ensures.damaged h shows))))

pub returns-in-NeedBlock-clause-needed : goal.returns-in-NeedBlock-clause-needed
returns-in-NeedBlock-clause-needed g c h shown shows =
    let deep = c.depth-depth.ensures.value ∙ g.met.T.PointerTable.deep_in c.args.table.now (seen_in g.V.View.seen c.args.draft.now) h shows in
    of_table c.index_of.result (index_is h c.args.name.now c.depth-depth.result c.crc32.result c.index_of.result c.index_of.ensures.value deep c.crc32.ensures) (needed_at _ _ _ c.in-NeedBlock.is (c.in_ok-head.ensures.needed h shows))

pub returns-in-NeedBlock-2-clause-needed : goal.returns-in-NeedBlock-2-clause-needed
returns-in-NeedBlock-2-clause-needed g c h shown shows =
    let deep = c.depth-depth.ensures.value ∙ g.met.T.PointerTable.deep_in c.args.table.now (seen_in g.V.View.seen c.args.draft.now) h shows in
    let head = head_at h c.args.name.now c.depth-depth.result c.crc32.result c.index_of.result c.in-Is.head c.index_of.ensures.value deep c.crc32.ensures c.index_of.ensures.low (answer_at _ _ _ c.in-Is.is (c.in_ok-head.ensures.found h shows)) in
    needed_at _ _ _ c.in-NeedBlock-2.is (c.in_ok-found.ensures.needed h (index_for h c.args.name.now) shown head)

pub returns-in_err-dinode-clause-damaged : goal.returns-in_err-dinode-clause-damaged
returns-in_err-dinode-clause-damaged g c h shown shows =
    handed c.from_residual-in_err-dinode.result _ (TellsOf (IsWrongIn (seen_in g.V.View.seen c.args.draft.now) h)) c.from_residual-in_err-dinode.ensures.1 (wrong_tells (seen_in g.V.View.seen c.args.draft.now) h c.in_err-dinode.field-0.0 (tells h c.in_err-dinode.field-0.0 (damage_of h c.in_err-dinode.field-0.0 (c.in_err-dinode.ensures.damaged h shown.inode))))

pub returns-in-NeedBlock-3-clause-needed : goal.returns-in-NeedBlock-3-clause-needed
returns-in-NeedBlock-3-clause-needed g c h shown shows =
    dinode_needed (seen_in g.V.View.seen c.args.draft.now) h c.args.dir (index_for h c.args.name.now) (λ i. i ≡ index_for h c.args.name.now) c.in-NeedBlock-3.missing shown.inode.own refl
    (needed_at _ _ _ c.in-NeedBlock-3.is c.in_ok-dinode.ensures.needed) (needed_at _ _ _ c.in-NeedBlock-3.is c.in_ok-dinode.ensures.absent)

pub returns-in_err-cut_and_count-clause-damaged : goal.returns-in_err-cut_and_count-clause-damaged
returns-in_err-cut_and_count-clause-damaged g c h shown shows =
    let v = seen_in g.V.View.seen c.args.draft.now in
    let deep = c.depth-depth.ensures.value ∙ g.met.T.PointerTable.deep_in c.args.table.now v h shows in
    let head = head_at h c.args.name.now c.depth-depth.result c.crc32.result c.index_of.result c.in-Is.head c.index_of.ensures.value deep c.crc32.ensures c.index_of.ensures.low (answer_at _ _ _ c.in-Is.is (c.in_ok-head.ensures.found h shows)) in
    let spot = found_at c.in_ok-found.field-0 c.in-Is-Some.field-0 c.in-Is-Some.found (IsSpotIn v c.args.name.now) c.in-Is-Some.is c.in-Is-Some.field-0-is c.in_ok-found.ensures.spot in
    let place = found_at c.in_ok-found.field-0 c.in-Is-Some.field-0 c.in-Is-Some.found (IsInPlace h (index_for h c.args.name.now) c.args.name.now) c.in-Is-Some.is c.in-Is-Some.field-0-is (c.in_ok-found.ensures.place h (index_for h c.args.name.now) shown head deep) in
    let dinode = answer_at _ _ _ c.in-Is-2.is (c.in_ok-dinode.ensures.found h shown.inode) in
    handed c.from_residual-in_err-cut_and_count.result _ (TellsOf (IsWrongIn (seen_in g.V.View.seen c.args.draft.now) h)) c.from_residual-in_err-cut_and_count.ensures.1
    (wrong_tells v h c.in_err-cut_and_count.field-0.0
    (too_few v h c.args.dir (index_for h c.args.name.now) c.args.name.now c.in-Is-Some.found c.in-Is-2.dinode shown spot place dinode c.records_are_found_by_name.ensures.first c.in_err-cut_and_count.field-0.0 c.in_err-cut_and_count.ensures.few))

pub returns-clause-removed : goal.returns-clause-removed
returns-clause-removed g c h r shown shows sound named =
    let v = seen_in g.V.View.seen c.args.draft.now in
    let deep = c.depth-depth.ensures.value ∙ g.met.T.PointerTable.deep_in c.args.table.now v h shows in
    let head = head_at h c.args.name.now c.depth-depth.result c.crc32.result c.index_of.result c.in-Is.head c.index_of.ensures.value deep c.crc32.ensures c.index_of.ensures.low (answer_at _ _ _ c.in-Is.is (c.in_ok-head.ensures.found h shows)) in
    let spot = found_at c.in_ok-found.field-0 c.in-Is-Some.field-0 c.in-Is-Some.found (IsSpotIn v c.args.name.now) c.in-Is-Some.is c.in-Is-Some.field-0-is c.in_ok-found.ensures.spot in
    let place = found_at c.in_ok-found.field-0 c.in-Is-Some.field-0 c.in-Is-Some.found (IsInPlace h (index_for h c.args.name.now) c.args.name.now) c.in-Is-Some.is c.in-Is-Some.field-0-is (c.in_ok-found.ensures.place h (index_for h c.args.name.now) shown head deep) in
    let dinode = answer_at _ _ _ c.in-Is-2.is (c.in_ok-dinode.ensures.found h shown.inode) in
    let there = answer_at _ _ _ c.in-Is-2.is c.in_ok-dinode.ensures.there in
    let cut = c.in_ok-cut_and_count.ensures.cut in
    let small : crc32_of c.args.name.now < 2 ^ 32 = omega (arith, c.crc32.ensures, c.crc32.type_inv) in
    let first = first_named_is g.V.View.seen c.args.draft.now c.cut_and_count.new.draft c.args.dir c.args.name.now h c.in-Is-Some.found c.in-Is-2.dinode cut.0 shown sound spot place dinode cut.1 cut.2 there.0 there.1 c.areas_exchange_records.ensures.cut c.records_are_found_by_name.ensures.first c.records_are_found_by_name.ensures.named in
    let is = same _ r (c.chains_tell_names.ensures h c.args.name.now _ sound shown.hashed small first ∙ named) in
    (refl, subst (λ (q : Record). HasExchanged h (holding_over (seen_in g.V.View.seen c.cut_and_count.new.draft) h) (q ∷ []) []) is (has_exchanged g.V.View.seen c.args.draft.now c.cut_and_count.new.draft c.args.dir c.args.name.now h c.in-Is-Some.found c.in-Is-2.dinode cut.0 shown sound spot place dinode cut.1 cut.2 there.0 there.1 c.areas_exchange_records.ensures.cut c.records_are_found_by_name.ensures.first c.records_are_found_by_name.ensures.named))

pub returns-clause-nothing : goal.returns-clause-nothing
returns-clause-nothing g c h shown shows sound none =
    let v = seen_in g.V.View.seen c.args.draft.now in
    let deep = c.depth-depth.ensures.value ∙ g.met.T.PointerTable.deep_in c.args.table.now v h shows in
    let head = head_at h c.args.name.now c.depth-depth.result c.crc32.result c.index_of.result c.in-Is.head c.index_of.ensures.value deep c.crc32.ensures c.index_of.ensures.low (answer_at _ _ _ c.in-Is.is (c.in_ok-head.ensures.found h shows)) in
    let spot = found_at c.in_ok-found.field-0 c.in-Is-Some.field-0 c.in-Is-Some.found (IsSpotIn v c.args.name.now) c.in-Is-Some.is c.in-Is-Some.field-0-is c.in_ok-found.ensures.spot in
    let place = found_at c.in_ok-found.field-0 c.in-Is-Some.field-0 c.in-Is-Some.found (IsInPlace h (index_for h c.args.name.now) c.args.name.now) c.in-Is-Some.is c.in-Is-Some.field-0-is (c.in_ok-found.ensures.place h (index_for h c.args.name.now) shown head deep) in
    let dinode = answer_at _ _ _ c.in-Is-2.is (c.in_ok-dinode.ensures.found h shown.inode) in
    let there = answer_at _ _ _ c.in-Is-2.is c.in_ok-dinode.ensures.there in
    let cut = c.in_ok-cut_and_count.ensures.cut in
    let small : crc32_of c.args.name.now < 2 ^ 32 = omega (arith, c.crc32.ensures, c.crc32.type_inv) in
    let first = first_named_is g.V.View.seen c.args.draft.now c.cut_and_count.new.draft c.args.dir c.args.name.now h c.in-Is-Some.found c.in-Is-2.dinode cut.0 shown sound spot place dinode cut.1 cut.2 there.0 there.1 c.areas_exchange_records.ensures.cut c.records_are_found_by_name.ensures.first c.records_are_found_by_name.ensures.named in
    absurd (none_some (sym none ∙ sym (c.chains_tell_names.ensures h c.args.name.now _ sound shown.hashed small first)))

pub returns-clause-slots : goal.returns-clause-slots
returns-clause-slots g c h shown shows sound =
    let v = seen_in g.V.View.seen c.args.draft.now in
    let deep = c.depth-depth.ensures.value ∙ g.met.T.PointerTable.deep_in c.args.table.now v h shows in
    let head = head_at h c.args.name.now c.depth-depth.result c.crc32.result c.index_of.result c.in-Is.head c.index_of.ensures.value deep c.crc32.ensures c.index_of.ensures.low (answer_at _ _ _ c.in-Is.is (c.in_ok-head.ensures.found h shows)) in
    let spot = found_at c.in_ok-found.field-0 c.in-Is-Some.field-0 c.in-Is-Some.found (IsSpotIn v c.args.name.now) c.in-Is-Some.is c.in-Is-Some.field-0-is c.in_ok-found.ensures.spot in
    let place = found_at c.in_ok-found.field-0 c.in-Is-Some.field-0 c.in-Is-Some.found (IsInPlace h (index_for h c.args.name.now) c.args.name.now) c.in-Is-Some.is c.in-Is-Some.field-0-is (c.in_ok-found.ensures.place h (index_for h c.args.name.now) shown head deep) in
    let dinode = answer_at _ _ _ c.in-Is-2.is (c.in_ok-dinode.ensures.found h shown.inode) in
    let there = answer_at _ _ _ c.in-Is-2.is c.in_ok-dinode.ensures.there in
    let cut = c.in_ok-cut_and_count.ensures.cut in
    cut_from g.V.View.seen c.args.draft.now c.cut_and_count.new.draft c.args.dir c.args.name.now h c.in-Is-Some.found c.in-Is-2.dinode cut.0 shown sound spot place dinode cut.1 cut.2 there.0 there.1 c.areas_exchange_records.ensures.cut c.records_are_found_by_name.ensures.first c.records_are_found_by_name.ensures.named

pub returns-clause-laid : goal.returns-clause-laid
returns-clause-laid g c h shown shows sound done =
    let v = seen_in g.V.View.seen c.args.draft.now in
    let deep = c.depth-depth.ensures.value ∙ g.met.T.PointerTable.deep_in c.args.table.now v h shows in
    let head = head_at h c.args.name.now c.depth-depth.result c.crc32.result c.index_of.result c.in-Is.head c.index_of.ensures.value deep c.crc32.ensures c.index_of.ensures.low (answer_at _ _ _ c.in-Is.is (c.in_ok-head.ensures.found h shows)) in
    let spot = found_at c.in_ok-found.field-0 c.in-Is-Some.field-0 c.in-Is-Some.found (IsSpotIn v c.args.name.now) c.in-Is-Some.is c.in-Is-Some.field-0-is c.in_ok-found.ensures.spot in
    let place = found_at c.in_ok-found.field-0 c.in-Is-Some.field-0 c.in-Is-Some.found (IsInPlace h (index_for h c.args.name.now) c.args.name.now) c.in-Is-Some.is c.in-Is-Some.field-0-is (c.in_ok-found.ensures.place h (index_for h c.args.name.now) shown head deep) in
    let dinode = answer_at _ _ _ c.in-Is-2.is (c.in_ok-dinode.ensures.found h shown.inode) in
    let there = answer_at _ _ _ c.in-Is-2.is c.in_ok-dinode.ensures.there in
    let cut = c.in_ok-cut_and_count.ensures.cut in
    pads_kept g.V.View.seen c.args.draft.now c.cut_and_count.new.draft c.args.dir c.args.name.now h c.in-Is-Some.found c.in-Is-2.dinode cut.0 shown sound spot place dinode cut.1 cut.2 there.0 there.1 c.areas_exchange_records.ensures.cut c.records_are_found_by_name.ensures.first c.records_are_found_by_name.ensures.named

pub returns-clause-still : goal.returns-clause-still
returns-clause-still g c h shown shows sound done =
    let v = seen_in g.V.View.seen c.args.draft.now in
    let deep = c.depth-depth.ensures.value ∙ g.met.T.PointerTable.deep_in c.args.table.now v h shows in
    let head = head_at h c.args.name.now c.depth-depth.result c.crc32.result c.index_of.result c.in-Is.head c.index_of.ensures.value deep c.crc32.ensures c.index_of.ensures.low (answer_at _ _ _ c.in-Is.is (c.in_ok-head.ensures.found h shows)) in
    let spot = found_at c.in_ok-found.field-0 c.in-Is-Some.field-0 c.in-Is-Some.found (IsSpotIn v c.args.name.now) c.in-Is-Some.is c.in-Is-Some.field-0-is c.in_ok-found.ensures.spot in
    let place = found_at c.in_ok-found.field-0 c.in-Is-Some.field-0 c.in-Is-Some.found (IsInPlace h (index_for h c.args.name.now) c.args.name.now) c.in-Is-Some.is c.in-Is-Some.field-0-is (c.in_ok-found.ensures.place h (index_for h c.args.name.now) shown head deep) in
    let dinode = answer_at _ _ _ c.in-Is-2.is (c.in_ok-dinode.ensures.found h shown.inode) in
    let there = answer_at _ _ _ c.in-Is-2.is c.in_ok-dinode.ensures.there in
    let cut = c.in_ok-cut_and_count.ensures.cut in
    let sound_now = sound_directory g.V.View.seen c.args.draft.now c.cut_and_count.new.draft c.args.dir c.args.name.now h c.in-Is-Some.found c.in-Is-2.dinode cut.0 shown sound spot place dinode cut.1 cut.2 there.0 there.1 c.areas_exchange_records.ensures.cut c.records_are_found_by_name.ensures.first c.records_are_found_by_name.ensures.named in
    let after = still_shown g.V.View.seen c.args.draft.now c.cut_and_count.new.draft c.args.dir c.args.name.now h c.in-Is-Some.found c.in-Is-2.dinode cut.0 shown sound spot place dinode cut.1 cut.2 there.0 there.1 c.areas_exchange_records.ensures.cut c.records_are_found_by_name.ensures.first c.records_are_found_by_name.ensures.named c.sound_inodes_are_shown.ensures in (
      after,
      g.met.T.PointerTable.follows c.args.table.now v (seen_in g.V.View.seen c.cut_and_count.new.draft) h (holding_over (seen_in g.V.View.seen c.cut_and_count.new.draft) h) shows refl
          (subst (λ a. IsShown (seen_in g.V.View.seen c.cut_and_count.new.draft) a (holding_over (seen_in g.V.View.seen c.cut_and_count.new.draft) h)) (sym shown.inode.own) after)
          sound_now.block_size sound_now.inode (depth_kept g.V.View.seen c.args.draft.now c.cut_and_count.new.draft c.args.dir c.args.name.now h c.in-Is-Some.found c.in-Is-2.dinode cut.0 shown sound spot place dinode cut.1 cut.2 there.0 there.1 c.areas_exchange_records.ensures.cut c.records_are_found_by_name.ensures.first c.records_are_found_by_name.ensures.named),
      sound_now,
    )

pub returns-in_err-cut_and_count-clause-kept : goal.returns-in_err-cut_and_count-clause-kept
returns-in_err-cut_and_count-clause-kept g c =
    let v = seen_in g.V.View.seen c.args.draft.now in
    let spot = found_at c.in_ok-found.field-0 c.in-Is-Some.field-0 c.in-Is-Some.found (IsSpotIn v c.args.name.now) c.in-Is-Some.is c.in-Is-Some.field-0-is c.in_ok-found.ensures.spot in
    handed c.from_residual-in_err-cut_and_count.result _ (TellsOf (IsOfView v)) c.from_residual-in_err-cut_and_count.ensures.1
    (few_kept v c.args.dir c.in-Is-Some.found c.in-Is-2.dinode c.in_err-cut_and_count.field-0.0 (spot.bytes, spot.there) (answer_at _ _ _ c.in-Is-2.is c.in_ok-dinode.ensures.there) c.in_err-cut_and_count.ensures.few)

pub returns-clause-found : goal.returns-clause-found
returns-clause-found g c h shown shows =
    let v = seen_in g.V.View.seen c.args.draft.now in
    let deep = c.depth-depth.ensures.value ∙ g.met.T.PointerTable.deep_in c.args.table.now v h shows in
    let head = head_at h c.args.name.now c.depth-depth.result c.crc32.result c.index_of.result c.in-Is.head c.index_of.ensures.value deep c.crc32.ensures c.index_of.ensures.low (answer_at _ _ _ c.in-Is.is (c.in_ok-head.ensures.found h shows)) in
    let spot = found_at c.in_ok-found.field-0 c.in-Is-Some.field-0 c.in-Is-Some.found (IsSpotIn v c.args.name.now) c.in-Is-Some.is c.in-Is-Some.field-0-is c.in_ok-found.ensures.spot in
    let place = found_at c.in_ok-found.field-0 c.in-Is-Some.field-0 c.in-Is-Some.found (IsInPlace h (index_for h c.args.name.now) c.args.name.now) c.in-Is-Some.is c.in-Is-Some.field-0-is (c.in_ok-found.ensures.place h (index_for h c.args.name.now) shown head deep) in
    let dinode = answer_at _ _ _ c.in-Is-2.is (c.in_ok-dinode.ensures.found h shown.inode) in
    in_this place.place c.in-Is-Some.found.block _ place.chain (is_there v h c.args.dir (index_for h c.args.name.now) c.args.name.now c.in-Is-Some.found c.in-Is-2.dinode shown spot place dinode c.records_are_found_by_name.ensures.first) place.later place.heads

pub returns-clause-two : goal.returns-clause-two
returns-clause-two g c =
    let v = seen_in g.V.View.seen c.args.draft.now in
    let spot = found_at c.in_ok-found.field-0 c.in-Is-Some.field-0 c.in-Is-Some.found (IsSpotIn v c.args.name.now) c.in-Is-Some.is c.in-Is-Some.field-0-is c.in_ok-found.ensures.spot in
    let cut = c.in_ok-cut_and_count.ensures.cut in
    record { there = (spot.bytes, spot.there); inside = spot.inside; new_leaf = cut.2.leaf; block = cut.2.block; put = cut.2.put; dinode = cut.0; read = cut.2.read }

pub returns-in-Is-None-clause-found : goal.returns-in-Is-None-clause-found
returns-in-Is-None-clause-found g c h shown shows =
    let v = seen_in g.V.View.seen c.args.draft.now in
    let deep = c.depth-depth.ensures.value ∙ g.met.T.PointerTable.deep_in c.args.table.now v h shows in
    let head = head_at h c.args.name.now c.depth-depth.result c.crc32.result c.index_of.result c.in-Is.head c.index_of.ensures.value deep c.crc32.ensures c.index_of.ensures.low (answer_at _ _ _ c.in-Is.is (c.in_ok-head.ensures.found h shows)) in
    nowhere_named h c.args.name.now (subst (λ o. IsFoundAlong h (index_for h c.args.name.now) c.args.name.now (entry_at o)) c.in-Is-None.field-0-is
    (answer_at c.in_ok-found.field-0 c.in-Is-None.field-0 (λ o. IsFoundAlong h (index_for h c.args.name.now) c.args.name.now (entry_at o)) c.in-Is-None.is (c.in_ok-found.ensures.found h (index_for h c.args.name.now) shown head deep)))
