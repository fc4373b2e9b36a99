-- A journal is that of the log with other versions, another flush and another table of live blocks, where these are live as they say.
use Rattle.std.proofs.Common.{ℕ, List, Option}
use Rattle.std.specs.FinMap as table
use Rattle.std.specs.Ordering.{nat_cmp}
use Rattle.log_layout.specs.Journal.{Ring}
use Rattle.log_rings.specs.Laid.{IsLiveAs, IsRingOf, Laid}
use Rattle.log_values.specs.Blocks as set
use Rattle.log_values.specs.Log.{Entry, Flush, LogValue, Version}

module _ (ring : Ring) (log : LogValue) (laid : List Laid) (fresh : table.FinMap nat_cmp Version) (gone : set.Blocks) (flush : Option Flush) (live : table.FinMap nat_cmp Entry) where
  pub ring_still : IsRingOf ring log laid → ((b : ℕ) → IsLiveAs laid b (table.get live b)) → IsRingOf ring (record log { fresh = fresh; gone = gone; flush = flush; live = live }) laid
  ring_still is lives = record {
    size = is.size;
    places = is.places;
    head = is.head;
    headed = is.headed;
    place = is.place;
    sequence = is.sequence;
    clean = is.clean;
    tail = is.tail;
    none = is.none;
    are = is.are;
    whole = is.whole;
    rise = is.rise;
    last = is.last;
    live = lives;
  }
