-- A search that stops where a call in it did.
use Rattle.std.proofs.Common.{◌≡◌, ℕ, sym, subst}
use Rattle.std.specs.Prelude.{Result, Ok, Err, IfErr, IfOk, OnOk, IsErrAnd}
use Rattle.image_model.specs.Image.{Image}
use Rattle.image_mount.specs.Refusals.{HasRisen, LiesWithin, RefusesRightly}
use Rattle.image_mount.specs.Searching.{IsSteady, StopsRightly}
use Rattle.image_mount.specs.declared.fault.MountFault.{MountFault}
use Rattle.image_mount.specs.declared.fault.MountFault.TheVariants as fault
use Rattle.image_mount.specs.declared.stop.Stop.{Stop}
use Rattle.image_mount.specs.declared.stop.Stop.TheVariants as stop

-- what is handed on is what was made of an error
pub handed : {T F : Type 0} (r : Result T F) (G P : F → Type 0) → IsErrAnd r G → ((f : F) → G f → P f) → IfErr r P
handed (Ok x) G P is so = tt
handed (Err f) G P is so = so f is

-- a refusal that is handed on as the stop of a search
pub stopped : {T : Type 0} (im : Image) (r : Result T Stop) (f : MountFault) → IsErrAnd r (λ s. s ≡ stop.Refused f) → RefusesRightly im f → IfErr r (StopsRightly im)
stopped {T} im r f is right = handed {T = T} r (λ s. s ≡ stop.Refused f) (StopsRightly im) is (λ s e. subst (StopsRightly im) (sym e) right)

-- a stop that is handed on
pub passed : {T : Type 0} (im : Image) (r : Result T Stop) (s : Stop) → IsErrAnd r (λ t. t ≡ s) → StopsRightly im s → IfErr r (StopsRightly im)
passed {T} im r s is right = handed {T = T} r (λ t. t ≡ s) (StopsRightly im) is (λ t e. subst (StopsRightly im) (sym e) right)

-- a refusal that is handed on
pub refused : {T : Type 0} (im : Image) (r : Result T MountFault) (f : MountFault) → IsErrAnd r (λ g. g ≡ f) → RefusesRightly im f → IfErr r (RefusesRightly im)
refused {T} im r f is right = handed {T = T} r (λ g. g ≡ f) (RefusesRightly im) is (λ g e. subst (RefusesRightly im) (sym e) right)

-- what holds of an answer
pub given : {T E : Type 0} (r : Result T E) (P Q : T → Type 0) → IfOk r P → ((x : T) → P x → Q x) → IfOk r Q
given (Ok x) P Q p so = so x p
given (Err f) P Q p so = tt

-- what holds where a call succeeded
pub held : {T E : Type 0} (r : Result T E) (P Q : Type 0) → OnOk r P → (P → Q) → OnOk r Q
held (Ok x) P Q p so = so p
held (Err f) P Q p so = tt

-- a refusal that isn't the disk's is told as any disk tells it
pub steady_risen : (f : MountFault) → IsSteady f → (before now : ℕ → ℕ) → HasRisen before now f
steady_risen (fault.NotProfile what value) steady before now = tt
steady_risen (fault.Damaged block rule) steady before now = tt
steady_risen (fault.DeviceFault block x y) steady before now = absurd steady
steady_risen fault.NoMemory steady before now = tt

pub steady_within : (f : MountFault) → IsSteady f → (count : ℕ) → LiesWithin count f
steady_within (fault.NotProfile what value) steady count = tt
steady_within (fault.Damaged block rule) steady count = tt
steady_within (fault.DeviceFault block x y) steady count = absurd steady
steady_within fault.NoMemory steady count = tt
