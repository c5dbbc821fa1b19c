-- The text by which clients name an app.
use Rattle.std.specs.Prelude.{ℕ, List, length, Bool, ◌&&◌, nat_le}

-- 1 to 1024 bytes, the most that is kept of a text of a request
abbrev pub is_appid : List ℕ → Bool
is_appid text = nat_le 1 (length text) && nat_le (length text) 1024
