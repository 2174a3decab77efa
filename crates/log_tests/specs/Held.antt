-- Words that hold a log of so many entries, in a room of four: what the tests carry from one call to the next.
use Rattle.std.specs.Prelude.{◌≡◌, ℕ, List, length}
use Rattle.servers.specs.Server.{Entry}
use Rattle.texts.specs.Words.{All, word}
use Rattle.raft_log.specs.Rows.{log_region, GoodEntry}

pub record Held (n : ℕ) (ws : List ℕ) : Type 0 where
  pub log : List Entry
  pub long : length log ≡ n
  pub good : All (GoodEntry 256 word word) log
  pub is : ws ≡ log_region 4 log
