-- The numbers that a log has are within the widths in which a journal keeps them: a block's number takes eight bytes, and bytes are below 256.
use Rattle.std.specs.Prelude.{ℕ, ◌≡◌, ◌^◌, ◌<◌, true, List, Some}
use Rattle.std.specs.FinMap as table
use Rattle.std.specs.List.{All}
use Rattle.std.specs.Ordering.{nat_cmp}
use Rattle.drafts.specs.declared.change.Change.{Change}
use Rattle.drafts.specs.declared.change.Written.{Written}
use Rattle.log_values.specs.Blocks as set
use Rattle.log_values.specs.Flushing.{block_at}
use Rattle.log_values.specs.Log.{Flush, Journal, LogValue, Version}

abbrev pub AreBytes : List ℕ → Type 0
AreBytes bytes = All (λ byte. byte < 256) bytes

abbrev pub IsNumber : ℕ → Type 0
IsNumber b = b < 2 ^ 64

-- ---- a change

pub record HasChangeWidths (c : Change) : Type 0 where
  pub numbers : All (λ (w : Written). IsNumber w.block) c.blocks.items
  pub bytes : All (λ (w : Written). AreBytes w.bytes) c.blocks.items
  pub freed : All IsNumber c.freed.items

-- ---- a log

pub record HasJournalWidths (j : Journal) : Type 0 where
  pub jid : j.jid < 2 ^ 32
  pub places : (p : ℕ) → p < j.length → IsNumber (block_at j p)
  pub jinode : IsNumber j.jinode
  pub time : IsNumber j.time

abbrev pub HaveVersionWidths : table.FinMap nat_cmp Version → Type 0
HaveVersionWidths versions = (b : ℕ) (v : Version) → table.get versions b ≡ Some v → IsNumber b × AreBytes v.bytes

abbrev pub HaveBlockWidths : set.Blocks → Type 0
HaveBlockWidths blocks = (b : ℕ) → set.contains blocks b ≡ true → IsNumber b

-- what it has changed and not flushed, and what the flush that was begun logs and revokes
pub record HasLogWidths (log : LogValue) : Type 0 where
  pub journal : HasJournalWidths log.journal
  pub fresh : HaveVersionWidths log.fresh
  pub gone : HaveBlockWidths log.gone
  pub flushed : (f : Flush) → log.flush ≡ Some f → HaveVersionWidths f.versions × HaveBlockWidths f.revokes
