-- A record is cut from an area: the one before it takes it up, or, where it is the first, it is no longer in use.
use Rattle.std.specs.Prelude.{ℕ, ◌≡◌, ◌+◌, List, [], ◌∷◌, ◌++◌, length, take, drop}
use Rattle.gfs2_layout.specs.Area.{Slot, slot_at, slot_bytes, slot_length, slots_of, IsRecordAt}

-- a record that is no longer in use: both numbers of its inum are zero
abbrev pub emptied : Slot → Slot
emptied s = record {
  head = record s.head { inum = record { number = 0; address = 0 } };
  pad = s.pad;
  body = s.body;
}

-- a record that takes up the next one: its length grows by that one's, whose bytes stand behind its own
abbrev pub joined : Slot → Slot → Slot
joined s next = record {
  head = record s.head { rec_len = s.head.rec_len + next.head.rec_len };
  pad = s.pad;
  body = s.body ++ slot_bytes next;
}

-- the records before one, when that one goes
abbrev pub without : List Slot → Slot → List Slot
without [] s = emptied s ∷ []
without (b ∷ []) s = joined b s ∷ []
without (b ∷ c ∷ before) s = b ∷ without (c ∷ before) s

-- the record that begins at this place
abbrev pub slot_from : ℕ → List ℕ → Slot
slot_from at area = slot_at (drop at area)

-- the records of an area when the one at this place goes
abbrev pub slots_without : ℕ → List ℕ → List Slot
slots_without at area = without (slots_of (take at area)) (slot_from at area) ++ slots_of (drop (at + slot_length (slot_from at area)) area)

-- the area's last record begins at this place
pub record IsLastRecord (area : List ℕ) (at : ℕ) : Type 0 where
  pub here : IsRecordAt area at
  pub ends : at + slot_length (slot_from at area) ≡ length area
