-- Groups that a draft puts.
use Rattle.std.proofs.Common.{◌≡◌, ℕ, ◌-◌, ◌<◌, ◌⊎◌, inl, inr, None, sym, ap, ◌∙◌, subst, arith}
use Rattle.std.specs.Prelude.{unwrap_or}
use Rattle.std.specs.FinMap.{get}
use Rattle.drafts.specs.Fates.{block_with}
use Rattle.gfs2_layout.specs.Groups.{IsStatePut}
use Rattle.image_model.specs.Groups.{IsHeaderOf, group_blocks, IsGroup}
use Rattle.image_changes.specs.Drafted.{with_draft}
use Rattle.image_changes.proofs.States.{map_same, state_is_put}
use Rattle.draft_changes.specs.Groups.{IsPutUnder, StatesArePut, GroupsStayPut}
use Rattle.draft_changes.proofs.Views.{later_shows}

pub states_are_put : StatesArePut
states_are_put v fates later im g states b state agrees sees put data_block four room is =
    state_is_put g (group_blocks (with_draft im fates).at g) (group_blocks (with_draft im later).at g) states (b - g.data0) state is inside (omega (arith, inside, room)) four
    (subst (λ at. IsStatePut (group_blocks (with_draft im fates).at g) (group_blocks at g) (b - g.data0) state) (later_shows v fates later im agrees sees) put.put)
  where
    inside : b - g.data0 < g.data_blocks
    inside = omega (arith, data_block.low, data_block.high)

pub groups_stay_put : GroupsStayPut
groups_stay_put fates later im g states same puts = record {
  says = subst (λ blocks. IsGroup g blocks states) (map_same (with_draft im fates).at (with_draft im later).at g.address g.length (λ b low high. bytes b (record { low = low; high = high }))) puts.says;
  some = (puts.some.0, puts.some.1, (puts.some.2.0, same puts.some.0 puts.some.1 ∙ puts.some.2.1));
  blocks = λ b h. by b h (puts.blocks b h);
}
  where
    bytes : (b : ℕ) → IsHeaderOf g b → (with_draft im fates).at b ≡ (with_draft im later).at b
    bytes b h = ap (λ f. unwrap_or (block_with f None) (im.at b)) (sym (same b h))

    by : (b : ℕ) → IsHeaderOf g b → (get fates b ≡ None) ⊎ IsPutUnder fates g b → (get later b ≡ None) ⊎ IsPutUnder later g b
    by b h (inl none) = inl (same b h ∙ none)
    by b h (inr so) = inr (so.0, same b h ∙ so.1)
