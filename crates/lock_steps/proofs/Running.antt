-- What holds over every list of steps.
use Rattle.std.proofs.Common.{ℕ, ◌≡◌, true}
use Rattle.lock_laws.specs.Lock.{Node, Holds, eff, Sound, Step, starting, Compatible}
use Rattle.lock_laws.proofs.Keeping.{step_keeps, starts, dominated}
use Rattle.lock_steps.specs.Runs.{Steps, Stays, AndThen, EveryRunIsCompatible, IsCovered, EveryTableCovers}

pub steps-sound : (l l' : ℕ → Node) → Steps l l' → Sound l → Sound l'
steps-sound l _ Stays s = s
steps-sound l _ (AndThen m n before step) s = (step_keeps m n step (steps-sound l m before s)).0

pub steps-join : (a b c : ℕ → Node) → Steps a b → Steps b c → Steps a c
steps-join a b _ first Stays = first
steps-join a b _ first (AndThen m n before step) = AndThen m n (steps-join a b m first before) step

pub one-step : (l l' : ℕ → Node) → Step l l' → Steps l l'
one-step l l' step = AndThen l l' Stays step

pub sound-compatible : (l : ℕ → Node) → Sound l → Compatible l
sound-compatible l s i k ne = s.apart i k ne _ _ Holds Holds

pub sound-covers : (l : ℕ → Node) → Sound l → (k : ℕ) → (l k).taken ≡ true → (l k).heard ≡ true → IsCovered (l k)
sound-covers l s k taken heard =
    let f = s.fine k in
    let d = dominated (eff (l k)) ((l k).down) ((l k).table) ((l k).up) (f.heard heard) (f.ok taken) in
    record { held = d.0; granted = d.1 }

pub compatible : EveryRunIsCompatible
compatible runs waits l run = sound-compatible l (steps-sound (λ k. starting (runs k) (waits k)) l run (starts runs waits))

pub table-covers : EveryTableCovers
table-covers runs waits l k run = sound-covers l (steps-sound (λ i. starting (runs i) (waits i)) l run (starts runs waits)) k
