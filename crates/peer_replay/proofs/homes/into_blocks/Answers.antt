use Rattle.std.proofs.Common.{List, ℕ, ap, sym, subst, ◌∙◌}
use Rattle.std.specs.Prelude.{map}
use Rattle.std.specs.List.Sorted.{IsStrictlyIncreasing}
use Rattle.std.specs.Map.{keys_of}
use Rattle.std.specs.Option.{option_map}
use Rattle.std.proofs.lemmas.Map.Keys.{IsStrictlyIncreasing-from_sorted}
use Rattle.drafts.specs.declared.change.Written.{Written}
use Rattle.journal_scan.specs.Said.{logged}
use Rattle.peer_replay.specs.Plans.{put_home}
use Rattle.peer_replay.proofs.Entries.{blocks_are_keys, found_is_kept, no_entries, part_end}
use Rattle.peer_replay.proofs.homes.into_blocks.Goals as goal

pub returns-clause-rising : goal.returns-clause-rising
returns-clause-rising c =
    let entries : List (ℕ × Written) = c.args.home.entries in
    let none = no_entries c.loop-written.left.entries (λ h. c.in_default.ensures.variant.1 h) in
    let all = part_end entries c.loop-written.left.entries c.loop-written.blocks.items c.loop-written.invariant none in
    subst IsStrictlyIncreasing (sym (ap (λ (ws : List Written). map (λ (w : Written). w.block) ws) all ∙ blocks_are_keys entries c.requires.by_block)) (IsStrictlyIncreasing-from_sorted (keys_of entries) c.len.ensures.ordered)

pub returns-clause-same : goal.returns-clause-same
returns-clause-same c b =
    let entries : List (ℕ × Written) = c.args.home.entries in
    let none = no_entries c.loop-written.left.entries (λ h. c.in_default.ensures.variant.1 h) in
    let all = part_end entries c.loop-written.left.entries c.loop-written.blocks.items c.loop-written.invariant none in
    ap (λ (ws : List Written). put_home ws b) all ∙ ap (option_map logged) (found_is_kept entries b c.requires.by_block)
