-- What is reached by steps, one after another.
use Rattle.std.proofs.Common.{◌≡◌, ℕ, zero, suc, ◌+◌, ◌-◌, ◌<◌, List, [], ◌∷◌, ◌++◌, Result, Ok, Err, refl, arith}
use Rattle.dex_bytes.specs.declared.fault.DexFault.{DexFault}
use Rattle.dex_tables.specs.Reading.{list_below}
use Rattle.dex_tables.specs.declared.stop.Stop.{Stop}
use Rattle.dex_tables.specs.declared.stop.Stop.TheVariants as stops
use Rattle.dex_tables.specs.Reading.{Stops}
use Rattle.dex_code.specs.Reading.{reached}

-- one step more
pub reached_more : {X : Type 0} (step : ℕ → X → Result X DexFault) (x : X) (i : ℕ) (y z : X) → reached step x i ≡ Ok y → step i y ≡ Ok z → reached step x (i + 1) ≡ Ok z
reached_more step x i y z all one = let e : i + 1 ≡ suc i = omega arith in rw (e, all, one) refl

stop_here : {X : Type 0} (step : ℕ → X → Result X DexFault) (x : X) (i : ℕ) (y : X) (e : DexFault) → reached step x i ≡ Ok y → step i y ≡ Err e → reached step x (suc i) ≡ Err e
stop_here step x i y e all one = rw (all, one) refl

stopped : {X : Type 0} (step : ℕ → X → Result X DexFault) (x : X) (i k : ℕ) (e : DexFault) → reached step x i ≡ Err e → reached step x (k + i) ≡ Err e
stopped step x i zero e stop = let same : 0 + i ≡ i = omega arith in rw same stop
stopped step x i (suc k) e stop =
    let same : suc k + i ≡ suc (k + i) = omega arith in
    rw (same, stopped step x i k e stop) refl

-- the first fault is that of all steps
pub reached_fault : {X : Type 0} (step : ℕ → X → Result X DexFault) (x : X) (i n : ℕ) (y : X) (e : DexFault) → reached step x i ≡ Ok y → step i y ≡ Err e → i < n → reached step x n ≡ Err e
reached_fault step x i n y e all one low =
    let same : n ≡ (n - suc i) + suc i = omega arith in
    rw same (stopped step x (suc i) (n - suc i) e (stop_here step x i y e all one))

-- the same where memory may have run out
pub reached_stop : {X : Type 0} (step : ℕ → X → Result X DexFault) (x : X) (i n : ℕ) (y : X) (stop : Stop) → reached step x i ≡ Ok y → Stops stop (step i y) → i < n → Stops stop (reached step x n)
reached_stop step x i n y stops.Memory all one low = tt
reached_stop step x i n y (stops.Fault e) all one low = reached_fault step x i n y e all one low

-- one entry more
pub list_below_more : {T : Type 0} (f : ℕ → T) (k : ℕ) (xs : List T) (x : T) → xs ≡ list_below f k → x ≡ f k → xs ++ x ∷ [] ≡ list_below f (k + 1)
list_below_more f k xs x all one = let same : k + 1 ≡ suc k = omega arith in rw (same, all, one) refl
