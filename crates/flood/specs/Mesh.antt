-- A mesh of switches and the live cables between them. It knows no ports: where a cable meets a switch is an end, and a frame goes out at one end of a
-- cable and in at the other. Any part of the cables is a mesh as well.
--
--     switch `at e`  e ---- cable ---- f  switch `at f`
use Rattle.std.specs.Prelude.{ℕ, ◌<◌, ◌≡◌}

pub record Mesh : Type 1 where
  -- how many switches there are; they number from 0
  pub size : ℕ
  -- the hop limit of a switch: it drops a copy that says as many hops or more, since its own count is one more
  pub limit : ℕ → ℕ
  -- the ends, and the switch that an end is at. The end of a host's cable is one too, and leads to no other
  pub End : Type 0
  pub at : End → ℕ
  -- a live cable leads from one end to another,
  pub Cable : End → End → Type 0
  -- and back; no end has two cables, and there are no switches but those numbered
  pub both : (e f : End) → Cable e f → Cable f e
  pub one : (e f g : End) → Cable e f → Cable e g → f ≡ g
  pub inside : (e f : End) → Cable e f → at e < size

-- a live cable leads from switch s to switch t
pub record Across (M : Mesh) (s t : ℕ) : Type 0 where
  pub near : M.End
  pub far : M.End
  pub leaves : M.at near ≡ s
  pub cable : M.Cable near far
  pub arrives : M.at far ≡ t

-- the switches joined to switch s by live cables
pub data Joined (M : Mesh) (s : ℕ) : ℕ → Type 0 where
  here : Joined M s s
  over : {t u : ℕ} → Joined M s t → Across M t u → Joined M s u
