-- A node at rest takes a change into its log, and rests.
use Rattle.std.proofs.Common.{◌≡◌, ◌<◌, ℕ, Bool, true, false, List, [], ◌∷◌, refl, sym, subst}
use Rattle.std.specs.List.{All}
use Rattle.std.proofs.lemmas.List.Elements.{All-cons, All-head, All-nil, All-tail}
use Rattle.drafts.specs.declared.change.Change.{Change}
use Rattle.drafts.specs.declared.change.Written.{Written}
use Rattle.glock_names.specs.declared.LockName.{LockName}
use Rattle.log_values.specs.Changes.{CanBeAdded, Suffices, with_change, without_all}
use Rattle.log_values.specs.Log.{Version}
use Rattle.log_values.proofs.Changing.{change_sound, dropped_all, written_all}
use Rattle.log_widths.specs.Widths.{HasChangeWidths}
use Rattle.log_widths.proofs.Staying.{changes_keep_widths}
use Rattle.shared_disk.specs.Disk.{DiskState}
use Rattle.logged_node.specs.declared.node.Node.{Node}
use Rattle.logged_node.specs.Nodes.{IsLogOf, IsResting}
use Rattle.logged_node.proofs.Disks.{same_disk}
use Rattle.logged_node.proofs.Going.{on_still}

-- whatever lock each block is under
whatever : (count : ℕ) (ws : List Written) → All (λ (w : Written). w.block < count) ws → All (λ (w : Written). (l : LockName) → w.block < count) ws
whatever count [] low = All-nil (λ (w : Written). (l : LockName) → w.block < count)
whatever count (w ∷ ws) low =
    All-cons (λ (x : Written). (l : LockName) → x.block < count) w ws (λ l. All-head (λ (x : Written). x.block < count) w ws low) (whatever count ws (All-tail (λ (x : Written). x.block < count) w ws low))

module _ (d : DiskState) (n : Node) (c : Change) (rest : IsResting d n) (can : CanBeAdded n.log.journal.size c) (widths : HasChangeWidths c) (suffices : Suffices (with_change n.log c)) (low : All (λ (w : Written). w.block < d.count) c.blocks.items) where
  blocks : IsLogOf d.count (with_change n.log c)
  blocks = record {
    fresh = written_all (λ (b : ℕ) (v : Version). b < d.count) c.blocks.items c.locks.items (without_all c.freed.items n.log.fresh) (whatever d.count c.blocks.items low)
        (dropped_all (λ (b : ℕ) (v : Version). b < d.count) c.freed.items n.log.fresh rest.on.blocks.fresh);
    flushed = rest.on.blocks.flushed;
    live = rest.on.blocks.live;
  }

  pub rests_changed : IsResting d (record n { log = with_change n.log c })
  rests_changed = record {
    on = on_still d d n (record n { log = with_change n.log c }) rest.on (same_disk d) (change_sound n.log c rest.on.sound can suffices) (changes_keep_widths n.log c rest.on.widths widths) blocks refl refl refl rest.on.flying rest.on.few
        rest.on.awaits;
    idle = rest.idle;
    none = rest.none;
    home = rest.home;
    small = suffices.blocks;
  }

-- taken or not
pub rests_either : (d : DiskState) (n m : Node) (c : Change) (taken : Bool) → CanBeAdded n.log.journal.size c → HasChangeWidths c → (taken ≡ true → m ≡ record n { log = with_change n.log c }) → (taken ≡ false → m ≡ n)
    → (taken ≡ true → Suffices (with_change n.log c)) → IsResting d n → All (λ (w : Written). w.block < d.count) c.blocks.items → IsResting d m
rests_either d n m c true can widths taken kept suffices rest low = subst (IsResting d) (sym (taken refl)) (rests_changed d n c rest can widths (suffices refl) low)
rests_either d n m c false can widths taken kept suffices rest low = subst (IsResting d) (sym (kept refl)) rest
