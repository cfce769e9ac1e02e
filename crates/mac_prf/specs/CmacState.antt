-- What a CMAC in the making stands for.
use Rattle.std.specs.Prelude.{◌≡◌, ℕ, ◌%◌, List, [], ◌++◌, length, take}
use Rattle.aes_core.specs.Chain.{chained, whole_blocks}
use Rattle.mac_prf.specs.declared.cmac.Cmac.{Cmac}
use Rattle.mac_prf.specs.Cmac.{zero_block}

-- the state is under this key: of m the whole blocks in front, of which none is the last, are chained,
-- and the rest is held
pub record Keeps (state : Cmac) (key m : List ℕ) : Type 0 where
  pub front : List ℕ
  pub under : state.aes.now ≡ key
  pub parts : m ≡ front ++ take state.size state.held
  pub whole : length front % 16 ≡ 0
  pub room : length state.held ≡ 16
  pub value : state.chained ≡ chained key zero_block (whole_blocks front)

-- the same, where bytes are held unless m is empty
pub record Holds (state : Cmac) (key m : List ℕ) : Type 0 where
  pub keeps : Keeps state key m
  pub some : state.size ≡ 0 → m ≡ []
