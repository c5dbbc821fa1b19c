-- An operator's requests to a server, and the lines that spell them.
use Rattle.std.specs.Prelude.{◌≡◌, ◌≢◌, ℕ, ◌≤◌, List, [], ◌++◌, length, codes}
use Rattle.std.specs.Prelude.{Bool, ◌==◌, IsFalse}
use Rattle.std.specs.List.{list_any}
use Rattle.std.specs.Str.{IsUtf8}
use Rattle.operator_request.specs.declared.request.OperatorRequest.{OperatorRequest}
use Rattle.operator_request.specs.declared.request.OperatorRequest.TheVariants.{Load, Show}
use Rattle.operator_request.specs.declared.request.OperatorRequest.TheVariants.{Cells, Stop}
use Rattle.operator_request.specs.declared.request.OperatorRequest.TheVariants.{Halt, Resume}
use Rattle.operator_request.specs.declared.request.OperatorRequest.TheVariants.{State}

-- the most bytes that a line has, without the line feed that may end it
abbrev pub line_limit : ℕ
line_limit = 4096

abbrev pub is_line_feed : ℕ → Bool
is_line_feed c = c == 10

-- the words of a request
abbrev pub request_words : OperatorRequest → List ℕ
request_words (Load path) = codes "load " ++ path.now
request_words Show = codes "show"
request_words Cells = codes "cells"
request_words Stop = codes "stop"
request_words (Halt appid) = codes "halt " ++ appid.now
request_words (Resume appid) = codes "resume " ++ appid.now
request_words State = codes "state"

-- the line is a word, and an argument that has bytes, which are a text
abbrev pub HasArgument : List ℕ → List ℕ → List ℕ → Type 0
HasArgument word text line = (line ≡ word ++ text) × IsUtf8 text × (text ≢ [])

-- the line isn't this word and an argument
abbrev pub HasNoArgument : List ℕ → List ℕ → Type 0
HasNoArgument word line = (text : List ℕ) → ¬ HasArgument word text line

-- the line is the words of the request
abbrev pub HasWordsOf : List ℕ → OperatorRequest → Type 0
HasWordsOf line (Load path) = HasArgument (codes "load ") path.now line
HasWordsOf line (Halt appid) = HasArgument (codes "halt ") appid.now line
HasWordsOf line (Resume appid) = HasArgument (codes "resume ") appid.now line
HasWordsOf line request = line ≡ request_words request

-- the line spells this request
pub record SpellsRequest (line : List ℕ) (request : OperatorRequest) : Type 0 where
  pub short : length line ≤ line_limit
  pub single : IsFalse (list_any is_line_feed line)
  pub worded : HasWordsOf line request

-- a line spells no request
abbrev pub SpellsNoRequest : List ℕ → Type 0
SpellsNoRequest line = (request : OperatorRequest) → ¬ SpellsRequest line request

-- its words are a line, which spells it
abbrev pub IsSendable : OperatorRequest → Type 0
IsSendable request = SpellsRequest (request_words request) request

-- an argument of at most this many bytes, which can follow a word in a line
pub record IsArgument (limit : ℕ) (text : List ℕ) : Type 0 where
  pub some : text ≢ []
  pub short : length text ≤ limit
  pub single : IsFalse (list_any is_line_feed text)
