-- A pool of frames, as its callers see it: how many frames there are, the length of each in bytes, and the bytes of those that are out.
use Rattle.std.specs.Prelude.{◌≡◌, ℕ, ◌<◌, List, length, None, IsSome, refl}
use Rattle.std.specs.Ordering.{nat_cmp}
use Rattle.std.specs.Coded.{Coded, code_by, coded×, coded_ℕ, coded_list}
use Rattle.std.specs.FinMap.{FinMap, code, get, insert, remove}

pub record Frames : Type 0 where
  pub count : ℕ
  pub size : ℕ
  pub out : FinMap nat_cmp (List ℕ)

abbrev pub frames_code : Coded Frames
frames_code = code_by (ℕ × (ℕ × FinMap nat_cmp (List ℕ))) (coded× coded_ℕ (coded× coded_ℕ (code coded_ℕ (coded_list coded_ℕ))))
    (λ f. (f.count, (f.size, f.out))) (λ p. record { count = p.0; size = p.1.0; out = p.1.1 }) (λ _. refl)

abbrev pub IsOut : Frames → ℕ → Type 0
IsOut pool frame = IsSome (get pool.out frame)

abbrev pub AllOut : Frames → Type 0
AllOut pool = (frame : ℕ) → frame < pool.count → IsOut pool frame

-- the pool, with these bytes in a frame, which is out
abbrev pub with_bytes : Frames → ℕ → List ℕ → Frames
with_bytes pool frame bytes = record pool { out = insert pool.out frame bytes }

-- the pool, once the frame is given back
abbrev pub after_give : Frames → ℕ → Frames
after_give pool frame = record pool { out = remove pool.out frame }

-- a frame of the pool that wasn't out is out, with some bytes
pub record Takes (old new : Frames) (frame : ℕ) : Type 0 where
  pub bytes : List ℕ
  pub within : frame < old.count
  pub whole : length bytes ≡ old.size
  pub was_in : get old.out frame ≡ None
  pub taken : new ≡ with_bytes old frame bytes
