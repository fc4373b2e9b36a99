use Rattle.std.proofs.Common.{◌≡◌, ℕ, List, Ok, Err, sym, ap, subst, ◌∙◌}
use Rattle.std.specs.Prelude.{Some}
use Rattle.image_model.specs.Image.{Image}
use Rattle.image_model.specs.Replays.{Replayed}
use Rattle.image_model.specs.Stands.{Layout}
use Rattle.log_layout.specs.Journal.{Ring, head_in}
use Rattle.log_layout.specs.Live.{IsReadable}
use Rattle.log_layout.specs.Transactions.{transactions_of}
use Rattle.log_layout.specs.declared.log_header.LogHeader.{LogHeader}
use Rattle.image_replays.specs.Replays.{Stops, astray, bad_chunk, twice}
use Rattle.image_replays.proofs.laws.stopped_images_have_no_replay.Goals as goal

-- a journal with a bad chunk can't be read
not_readable : (ring : Ring) (head : LogHeader) (place : ℕ) → head_in ring ≡ Some head → transactions_of ring head ≡ Err place → IsReadable ring → ⊥
not_readable ring head place headed bad can =
    let one : Some can.head ≡ Some head = sym can.headed ∙ headed in
    let same : can.head ≡ head = cc in
    let both : Ok can.transactions ≡ Err place = sym can.read ∙ ap (transactions_of ring) same ∙ bad in cc

none_replayed : (im replayed : Image) (l : Layout) (rule b : ℕ) → Stops im l rule b → Replayed im l replayed → ⊥
none_replayed im replayed l _ _ (bad_chunk j d place head at headed bad) is = not_readable _ head place headed bad (is.replayable.readable j d at)
none_replayed im replayed l _ b (astray _ it) is = it.barred (is.replayable.inside it.journal it.dinode it.number it.bytes it.at it.live)
none_replayed im replayed l _ b (twice _ it) is = it.apart (is.replayable.once it.one it.other b it.live)

pub returns : goal.returns
returns c im replayed l rule b stops is = none_replayed im replayed l rule b stops is
