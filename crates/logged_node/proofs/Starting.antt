-- A node that begins rests.
use Rattle.std.proofs.Common.{◌≡◌, ◌<◌, ◌≤◌, ℕ, length, refl, sym, ap, subst, ◌∙◌, arith}
use Rattle.std.specs.FinMap as table
use Rattle.log_values.specs.Changes.{most_unflushed}
use Rattle.log_values.specs.Laws.{IsJournal, empty_log}
use Rattle.log_values.specs.Log.{Journal, LogValue}
use Rattle.log_values.specs.Sound.{IsSoundLog}
use Rattle.log_values.proofs.Keeping.{empty_sound}
use Rattle.log_values.proofs.Landing.{none_in, nothing_is, nothing_takes}
use Rattle.log_widths.proofs.Staying.{empty_has_widths}
use Rattle.log_layout.specs.Chunks.{Transaction}
use Rattle.node_journal.specs.Encoding.{size_of}
use Rattle.shared_disk.specs.Disk.{DiskState}
use Rattle.logged_node.specs.declared.node.Node.{Node}
use Rattle.logged_node.specs.Beginning.{MayBeginOn}
use Rattle.log_values.specs.Flushing.{block_at}
use Rattle.log_widths.specs.Widths.{HasLogWidths}
use Rattle.logged_node.specs.Nodes.{Awaits, IsLogOf, IsResting, IsSmall, NoneGoesHome}
use Rattle.logged_node.proofs.Blocks.{none_some}

module _ (d : DiskState) (journal : Journal) (head sequence : ℕ) (n : Node) (is : IsJournal journal) (low : head < journal.length) (may : MayBeginOn d n.view journal) (log_is : n.log ≡ empty_log journal head sequence)
    (block : length n.block.items ≡ journal.size) (flying : n.flying ≡ 0) (awaits : Awaits n.armed) where
  log_of : (P : LogValue → Type 0) → P (empty_log journal head sequence) → P n.log
  log_of P so = subst P (sym log_is) so

  none_flies : length (d.in_flight 1) ≡ 0
  none_flies = ap length may.none

  pub rests_begun : IsResting d n
  rests_begun = record {
    on = record {
      sound = log_of IsSoundLog (empty_sound journal head sequence is low);
      widths = log_of HasLogWidths (empty_has_widths journal head sequence may.widths);
      blocks = log_of (IsLogOf d.count) (record { fresh = λ b v at. absurd (none_in table.empty b v refl at); flushed = λ f b v some at. absurd (none_some some); live = λ b e at. absurd (none_in table.empty b e refl at) });
      block = block ∙ may.size;
      journal = ap (λ (l : LogValue). l.journal.size) log_is ∙ may.size;
      view = may.view_size;
      places = log_of (λ (l : LogValue). (p : ℕ) → p < l.journal.length → block_at l.journal p < d.count) may.places;
      apart = log_of (λ (l : LogValue). (p q : ℕ) → p < l.journal.length → q < l.journal.length → block_at l.journal p ≡ block_at l.journal q → p ≡ q) may.apart;
      some = may.some;
      groups = may.groups;
      kept = may.kept;
      unfenced = may.unfenced;
      flying = flying ∙ sym none_flies;
      few = (let none = flying in omega (arith, none));
      awaits = awaits;
    };
    idle = ap (λ (l : LogValue). l.flush) log_is;
    none = may.none;
    home = log_of NoneGoesHome (λ b e bytes at flies. absurd (none_in table.empty b e refl at));
    small = log_of IsSmall (subst (λ (k : ℕ). k ≤ most_unflushed) (sym (ap (λ (t : Transaction). size_of journal.size t) nothing_is ∙ nothing_takes journal.size is.size)) (omega arith));
  }
