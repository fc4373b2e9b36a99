-- The tables of a log, as their callers see them: versions that aren't in its journal yet, and what is live there.
use Rattle.std.specs.Prelude.{ℕ, ◌+◌, Bool, true, false, not, List, Option, None, Some, count_by, refl}
use Rattle.std.specs.Ordering.{nat_cmp}
use Rattle.std.specs.Coded.{Coded, code_by, coded×, coded_ℕ}
use Rattle.std.specs.FinMap as map
use Rattle.log_tables.specs.Versions.{Entry, Version, Way, entry_code, version_code}
use Rattle.log_tables.specs.Versions.Way.{Home, Away, Flying}
use Rattle.log_tables.specs.declared.reads.Whereabouts.{Whereabouts}
use Rattle.log_tables.specs.declared.reads.Whereabouts.TheVariants as at

pub record Kept : Type 0 where
  -- the size of a block, how many frames there are, and how many blocks may be live
  pub size : ℕ
  pub frames : ℕ
  pub places : ℕ
  -- what was changed since the last flush began, what the flush logs that was begun, and what is live
  pub fresh : map.FinMap nat_cmp Version
  pub flushed : map.FinMap nat_cmp Version
  pub live : map.FinMap nat_cmp Entry

abbrev pub kept_code : Coded Kept
kept_code = code_by (ℕ × (ℕ × (ℕ × (map.FinMap nat_cmp Version × (map.FinMap nat_cmp Version × map.FinMap nat_cmp Entry)))))
    (coded× coded_ℕ (coded× coded_ℕ (coded× coded_ℕ (coded× (map.code coded_ℕ version_code) (coded× (map.code coded_ℕ version_code) (map.code coded_ℕ entry_code))))))
    (λ k. (k.size, (k.frames, (k.places, (k.fresh, (k.flushed, k.live))))))
    (λ p. record { size = p.0; frames = p.1.0; places = p.1.1.0; fresh = p.1.1.1.0; flushed = p.1.1.1.1.0; live = p.1.1.1.1.1 }) (λ _. refl)

-- nothing is kept
abbrev pub nothing_kept : ℕ → ℕ → ℕ → Kept
nothing_kept size frames places = record { size = size; frames = frames; places = places; fresh = map.empty; flushed = map.empty; live = map.empty }

abbrev pub is_home : Way → Bool
is_home Home = true
is_home (Away bytes) = false
is_home (Flying bytes) = false

-- how many live blocks aren't home
abbrev pub away_count : map.FinMap nat_cmp Entry → ℕ
away_count live = count_by (λ (e : ℕ × Entry). not (is_home e.1.way)) (map.entries live)

-- A frame is taken by each block that was changed since the last flush began, by each of the flush that was begun, and by each flushed version that isn't home.
abbrev pub frames_taken : Kept → ℕ
frames_taken k = map.len k.fresh + map.len k.flushed + away_count k.live

-- ---- what becomes of a block

-- the version is in the journal now, in a transaction that begins at this place, and away from home
abbrev pub landed : Version → ℕ → Entry
landed v first = record { lock = v.lock; first = first; way = Away v.bytes }

-- the block's content is home, or isn't wanted there any more
abbrev pub rested : map.FinMap nat_cmp Entry → ℕ → Option Entry → map.FinMap nat_cmp Entry
rested live b None = live
rested live b (Some e) = map.insert live b (record e { way = Home })

-- the block's content, if it is away, is on its way home
abbrev pub sent : Way → Way
sent Home = Home
sent (Away bytes) = Flying bytes
sent (Flying bytes) = Flying bytes

abbrev pub flown : map.FinMap nat_cmp Entry → ℕ → Option Entry → map.FinMap nat_cmp Entry
flown live b None = live
flown live b (Some e) = map.insert live b (record e { way = sent e.way })

-- ---- where a live block's content is

abbrev pub place_of_way : Way → Whereabouts
place_of_way Home = at.Home
place_of_way (Away bytes) = at.Away
place_of_way (Flying bytes) = at.Flying

-- what is to be put in its place
abbrev pub away_bytes : Way → Option (List ℕ)
away_bytes Home = None
away_bytes (Away bytes) = Some bytes
away_bytes (Flying bytes) = None
