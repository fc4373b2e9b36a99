-- A write to a place of the node's journal: what is in flight with it.
use Rattle.std.proofs.Common.{◌≡◌, ◌≢◌, ℕ, ◌<◌, List, None, Some, sym, ap, subst, ◌∙◌}
use Rattle.cluster_laws.specs.World.{World}
use Rattle.gfs2_layout.specs.Inode.{content_block}
use Rattle.image_machine.specs.Volumes.{IsPlace, Volume}
use Rattle.image_model.specs.Claims.{every}
use Rattle.image_model.specs.Stands.{IsJournalAt}
use Rattle.journal_outcomes.specs.Images.{ring_at, to_journal}
use Rattle.journal_outcomes.specs.Rings.{InFlight}
use Rattle.log_values.specs.Flushing.{block_at}
use Rattle.lone_machine.specs.Alone.{Begun}
use Rattle.lone_logs.specs.States.{FliesBesides, IsLoggedNode, NodeState, trees_on}

module _ (v : Volume) (s : Begun (trees_on v)) (w : World (trees_on v)) (d : ℕ) (st : NodeState) (is : IsLoggedNode v s w d st) where
  -- a place of its journal, in the volume and in the image
  pub within : (p : ℕ) → p < (ring_at st.image d).places → p < v.places d
  within p low = subst (λ n. p < n) (is.disk.many 0 d is.journal.is) low

  pub back_within : (p : ℕ) → p < v.places d → p < (ring_at st.image d).places
  back_within p low = subst (λ n. p < n) (sym (is.disk.many 0 d is.journal.is)) low

  pub content_at : (p : ℕ) → p < (ring_at st.image d).places → content_block (every st.image d) p ≡ v.place d p
  content_at p low = is.disk.there 0 d p is.journal.is (within p low)

  pub block_is : (p : ℕ) → p < (ring_at st.image d).places → block_at st.log.journal p ≡ v.place d p
  block_is p low = is.journal.place p (within p low)

  -- nothing is in flight to another journal
  pub none_elsewhere : (j k p : ℕ) → IsJournalAt v.layout j k → k ≢ d → p < (ring_at st.image k).places → to_journal st.image k st.flying p ≡ None
  none_elsewhere j k p at other low = (let low' : p < v.places k = subst (λ n. p < n) (is.disk.many j k at) low in ap st.flying (is.disk.there j k p at low') ∙ is.elsewhere j k p at other low')

  module _ (p : ℕ) (low : p < (ring_at st.image d).places) (bytes : List ℕ) (flying : InFlight) (besides : FliesBesides st.image st.flying flying (block_at st.log.journal p) bytes) where
    pub flies_here : to_journal st.image d flying p ≡ Some bytes
    flies_here = ap flying (content_at p low ∙ sym (block_is p low)) ∙ besides.there

    pub flies_still : (q : ℕ) → q < (ring_at st.image d).places → q ≢ p → to_journal st.image d flying q ≡ to_journal st.image d st.flying q
    flies_still q inside other =
        besides.others (content_block (every st.image d) q)
        (λ e. other (is.apart 0 d q 0 d p is.journal.is is.journal.is (within q inside) (within p low) (sym (content_at q inside) ∙ e ∙ block_is p low)).2)

    pub off_places : (b : ℕ) → (IsPlace v b → ⊥) → flying b ≡ st.flying b
    off_places b not = besides.others b (λ e. not (record { journal = 0; dinode = d; place = p; at = is.journal.is; low = within p low; is = sym (block_is p low) ∙ sym e }))

    pub still_elsewhere : (j k q : ℕ) → IsJournalAt v.layout j k → k ≢ d → q < v.places k → flying (v.place k q) ≡ None
    still_elsewhere j k q at other inside =
        besides.others (v.place k q) (λ e. other (is.apart j k q 0 d p at is.journal.is inside (within p low) (e ∙ block_is p low)).1) ∙ is.elsewhere j k q at other inside
