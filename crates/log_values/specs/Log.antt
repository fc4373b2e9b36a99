-- A node's log, as its callers see it: what its calls changed and isn't in the journal yet, the flush that is being written, and what is live in the journal.
use Rattle.std.specs.Prelude.{◌≡◌, ℕ, Bool, true, false, List, Option, None, Some, refl}
use Rattle.std.specs.Ordering.{nat_cmp}
use Rattle.std.specs.Coded.{Coded, code_by, coded×, coded_ℕ, coded_bool, coded_list, coded_option}
use Rattle.std.specs.FinMap as map
use Rattle.log_values.specs.Blocks as set
pub use Rattle.log_tables.specs.Versions.{Entry, Version, Way}
use Rattle.log_tables.specs.Versions.{entry_code, version_code}

-- How far a flush has come: so many blocks of its chunks are written; they are in the journal, and the header is next; or the header is in flight, and told this tail.
pub data Stage : Type 0 where
  Writing : ℕ → Stage
  Ending : Stage
  Headed : ℕ → Stage

-- a flush that was begun: what it logs and what it revokes
pub record Flush : Type 0 where
  pub versions : map.FinMap nat_cmp Version
  pub revokes : set.Blocks
  pub stage : Stage

-- what never changes: the journal's number, its places and the block of each, the size of a block, how many frames there are, the journal's dinode, and the time of headers
pub record Journal : Type 0 where
  pub jid : ℕ
  pub length : ℕ
  pub places : List ℕ
  pub size : ℕ
  pub frames : ℕ
  pub jinode : ℕ
  pub time : ℕ

pub record LogValue : Type 0 where
  pub journal : Journal
  -- the accepted head: its place, the tail, its sequence, and whether it is a clean one, behind which nothing was written yet
  pub head : ℕ
  pub tail : ℕ
  pub sequence : ℕ
  pub clean : Bool
  -- what was changed since the last flush began, and what of it has entries that the next flush is to take out of the journal
  pub fresh : map.FinMap nat_cmp Version
  pub gone : set.Blocks
  pub flush : Option Flush
  pub live : map.FinMap nat_cmp Entry

-- ---- codes

abbrev pub stage_code : Coded Stage
stage_code = code_by (Option (Bool × ℕ)) (coded_option (coded× coded_bool coded_ℕ)) parts whole back
  where
    parts : Stage → Option (Bool × ℕ)
    parts (Writing done) = Some (false, done)
    parts Ending = None
    parts (Headed tail) = Some (true, tail)

    whole : Option (Bool × ℕ) → Stage
    whole None = Ending
    whole (Some (false, done)) = Writing done
    whole (Some (true, tail)) = Headed tail

    back : (s : Stage) → whole (parts s) ≡ s
    back (Writing done) = refl
    back Ending = refl
    back (Headed tail) = refl

abbrev pub flush_code : Coded Flush
flush_code = code_by (map.FinMap nat_cmp Version × (set.Blocks × Stage)) (coded× (map.code coded_ℕ version_code) (coded× (set.code) stage_code))
    (λ f. (f.versions, (f.revokes, f.stage))) (λ p. record { versions = p.0; revokes = p.1.0; stage = p.1.1 }) (λ _. refl)

abbrev pub journal_code : Coded Journal
journal_code = code_by (ℕ × (ℕ × (List ℕ × (ℕ × (ℕ × (ℕ × ℕ)))))) (coded× coded_ℕ (coded× coded_ℕ (coded× (coded_list coded_ℕ) (coded× coded_ℕ (coded× coded_ℕ (coded× coded_ℕ coded_ℕ))))))
    (λ j. (j.jid, (j.length, (j.places, (j.size, (j.frames, (j.jinode, j.time)))))))
    (λ p. record { jid = p.0; length = p.1.0; places = p.1.1.0; size = p.1.1.1.0; frames = p.1.1.1.1.0; jinode = p.1.1.1.1.1.0; time = p.1.1.1.1.1.1 }) (λ _. refl)

abbrev pub log_code : Coded LogValue
log_code = code_by (Journal × (ℕ × (ℕ × (ℕ × (Bool × (map.FinMap nat_cmp Version × (set.Blocks × (Option Flush × map.FinMap nat_cmp Entry))))))))
    (coded× journal_code (coded× coded_ℕ (coded× coded_ℕ (coded× coded_ℕ (coded× coded_bool (coded× (map.code coded_ℕ version_code) (coded× (set.code) (coded× (coded_option flush_code) (map.code coded_ℕ entry_code)))))))))
    (λ l. (l.journal, (l.head, (l.tail, (l.sequence, (l.clean, (l.fresh, (l.gone, (l.flush, l.live)))))))))
    (λ p. record { journal = p.0; head = p.1.0; tail = p.1.1.0; sequence = p.1.1.1.0; clean = p.1.1.1.1.0; fresh = p.1.1.1.1.1.0; gone = p.1.1.1.1.1.1.0; flush = p.1.1.1.1.1.1.1.0; live = p.1.1.1.1.1.1.1.1 }) (λ _. refl)
