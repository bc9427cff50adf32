-- The places of the pulses, where the code has slots: they ascend, and lie in the subframe.
use mathlib.Core.Path.{◌≡◌, refl}
use mathlib.Core.Bool.{Bool, true, false, cond}
use Prim.Native.Nat.{ℕ, ◌≤◌, ◌<◌}
use native.Mathlib.Omega.{arith}
use mir.Val.{bool_byte}
use Rattle.positions.specs.Positions.{pulses, limit, slots}
use Rattle.positions.proofs.Order.{slot_bounds, slot_order}
use Rattle.positions.proofs.Walks.{slots_length, slots-ascend}
use Rattle.pulses.specs.Pulses.{pulse_place}
use Rattle.pulses.specs.declared.Description.{Description}

-- the grid bit as a number
pub grid_bit : (g : Bool) → bool_byte g ≡ cond g 1 0
grid_bit true = refl
grid_bit false = refl

pub grid-most : (g : Bool) → cond g 1 0 ≤ 1
grid-most true = omega arith
grid-most false = omega arith

module _ (d : Description) (h : d.code < limit d.count) where
  pub pulse-place-below : (k : ℕ) → k < pulses d.count → pulse_place d k < 60
  unfolding pulse_place
  pulse-place-below k m =
      omega (arith, (slot_bounds 0 (slots d.count d.code) k (slots-ascend d.count d.code h) (omega (arith, slots_length d.count d.code h))).1, grid-most d.grid)

  pub pulse-place_order : (i k : ℕ) → i < k → k < pulses d.count → pulse_place d i < pulse_place d k
  unfolding pulse_place
  pulse-place_order i k l m =
      omega (arith, slot_order 0 (slots d.count d.code) i k (slots-ascend d.count d.code h) l (omega (arith, slots_length d.count d.code h)))
