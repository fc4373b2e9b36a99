-- Live blocks of a node's log: what is live of them in its journal, and that none is a place of a journal.
use Rattle.std.proofs.Common.{◌≡◌, ◌⊎◌, ℕ, ◌<◌, inl, inr, false, List, ◌∷◌, Option, None, Some, refl, sym, ap, subst, ◌∙◌}
use Rattle.std.specs.FinMap as table
use Rattle.std.specs.Option.{option_map}
use Rattle.cluster_laws.specs.World.{World}
use Rattle.image_disks.proofs.Finding.{place_or_not}
use Rattle.image_machine.specs.Volumes.{IsPlace, Volume}
use Rattle.image_model.specs.Replays.{MayChange}
use Rattle.journal_outcomes.specs.Images.{ring_at}
use Rattle.log_layout.specs.Chunks.{Logged}
use Rattle.log_layout.specs.Live.{live_entry, live_in}
use Rattle.log_rings.specs.Laid.{HasContent, IsEntryOf, SequencesRise, sequenced_all}
use Rattle.log_rings.proofs.Cancelling.{live_laid}
use Rattle.log_rings.proofs.Tails.{entry_of, live_is, none_of}
use Rattle.log_tables.specs.Versions.Way.{Away, Flying}
use Rattle.log_values.specs.Log.{Entry}
use Rattle.lone_machine.specs.Alone.{Begun, head_of}
use Rattle.lone_machine.proofs.Going.{sound}
use Rattle.lone_logs.specs.States.{IsLoggedNode, NodeState, trees_on}

module _ (v : Volume) (s : Begun (trees_on v)) (w : World (trees_on v)) (d : ℕ) (st : NodeState) (is : IsLoggedNode v s w d st) where
  pub entry_at : (b : ℕ) (e : Entry) → table.get st.log.live b ≡ Some e → IsEntryOf is.laid b e
  entry_at b e at = entry_of (ring_at st.image d) st.log is.laid is.sound is.ring b e at

  -- the journal has its copy live
  pub live_copy : (b : ℕ) (e : Entry) (at : table.get st.log.live b ≡ Some e) → live_in (ring_at st.image d) b ≡ Some (entry_at b e at).copy.bytes
  live_copy b e at =
      let entry = entry_at b e at in
      live_is (ring_at st.image d) st.log is.laid is.sound is.ring b
      ∙ ap (option_map (λ (l : Logged). l.bytes)) (ap (λ ts. live_entry (sequenced_all ts) b) entry.parts
      ∙ live_laid entry.before (entry.its ∷ entry.behind) b entry.copy (subst SequencesRise entry.parts is.ring.rise) entry.live)

  -- what isn't home is live with its bytes
  pub live_away : (b : ℕ) (e : Entry) (bytes : List ℕ) → table.get st.log.live b ≡ Some e → (e.way ≡ Away bytes) ⊎ (e.way ≡ Flying bytes) → live_in (ring_at st.image d) b ≡ Some bytes
  live_away b e bytes at way = live_copy b e at ∙ ap Some (same way)
    where
      same : (e.way ≡ Away bytes) ⊎ (e.way ≡ Flying bytes) → (entry_at b e at).copy.bytes ≡ bytes
      same (inl is_away) = subst (λ x. HasContent x (entry_at b e at).copy) is_away (entry_at b e at).content
      same (inr flies) = subst (λ x. HasContent x (entry_at b e at).copy) flies (entry_at b e at).content

  -- what the log doesn't have isn't live
  pub live_none : (b : ℕ) → table.get st.log.live b ≡ None → live_in (ring_at st.image d) b ≡ None
  live_none b none =
      live_is (ring_at st.image d) st.log is.laid is.sound is.ring b ∙ ap (option_map (λ (l : Logged). l.bytes)) (none_of (ring_at st.image d) st.log is.laid is.sound is.ring b none)

  -- it is live by the machine's old head
  pub live_head : (b : ℕ) → (head_of (trees_on v) s w false).live b ≡ live_in (ring_at st.image d) b
  live_head b = ap (λ n. (w.disk.heads n false).live b) is.node ∙ sym (is.own.live 0 b false) ∙ is.disk.old 0 d b is.journal.is

  pub changes_at : (b : ℕ) (bytes : List ℕ) → live_in (ring_at st.image d) b ≡ Some bytes → MayChange st.image v.layout b
  changes_at b bytes e = is.disk.inside 0 b false bytes (is.disk.old 0 d b is.journal.is ∙ e)

  pub off_live : (b : ℕ) (bytes : List ℕ) → live_in (ring_at st.image d) b ≡ Some bytes → IsPlace v b → ⊥
  off_live b bytes e p =
      (changes_at b bytes e).no_place p.journal p.dinode p.place p.at (subst (λ n. p.place < n) (sym (is.disk.many p.journal p.dinode p.at)) p.low) (is.disk.there p.journal p.dinode p.place p.at p.low ∙ p.is)

  pub off_entry : (b : ℕ) (e : Entry) → table.get st.log.live b ≡ Some e → IsPlace v b → ⊥
  off_entry b e at = off_live b (entry_at b e at).copy.bytes (live_copy b e at)

  -- where nothing is on its way home, nothing of the node is in flight in the machine
  pub at_sea : ((b : ℕ) → (IsPlace v b → ⊥) → st.flying b ≡ None) → (b : ℕ) → w.disk.flight s.node b ≡ None
  at_sea still b = elim (place_or_not v b) [
    | inr off ↦ is.flights b off ∙ still b off
    | inl place ↦ by place (w.disk.flight s.node b) refl
  ]
    where
      by : IsPlace v b → (o : Option (List ℕ)) → w.disk.flight s.node b ≡ o → w.disk.flight s.node b ≡ None
      by place None e = e
      by place (Some bytes) e =
          let mirror = (sound (trees_on v) s w is.alone).mirror in
          let lives = mirror.flights s.node b bytes e in
          let its : lives.0 ≡ s.node = is.alone.owners b lives.0 (mirror.lives lives.0 false b bytes (lives.1 false)) in
          absurd (off_live b bytes (sym (live_head b) ∙ ap (λ n. (w.disk.heads n false).live b) (sym its) ∙ lives.1 false) place)
