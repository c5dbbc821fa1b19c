-- Answers in turn: the known list only grows through them, and turns follow one another.
use Rattle.std.proofs.Common.{Bool, List, [], ◌∷◌, ◌++◌}
use Rattle.hot_swap.specs.Published.{KnownPrefix, Extends}
use Rattle.workers.proofs.Onwards.{goes_further}
use Rattle.workers.specs.Answers.{WorkerAnswer, AreInTurn, AnswersGoOnwards, AnswersStayInTurn}

pub turns_go_onwards : AnswersGoOnwards
turns_go_onwards withholds from to [] turn = turn
turns_go_onwards withholds from to (a ∷ later) turn =
    goes_further from a.known to turn.0 (turns_go_onwards withholds a.known to later turn.1)

pub turns_stay : AnswersStayInTurn
turns_stay withholds from to more [] turn goes = goes_further from to more turn goes
turns_stay withholds from to more (a ∷ later) turn goes =
    (turn.0, turns_stay withholds a.known to more later turn.1 goes)

-- answers in turn from a list are also in turn from a prefix of it
turns_sooner : {withholds : Bool} (before from to : KnownPrefix)
    (answers : List (WorkerAnswer withholds)) → Extends before from
    → AreInTurn from answers to → AreInTurn before answers to
turns_sooner before from to [] goes turn = goes_further before from to goes turn
turns_sooner before from to (a ∷ later) goes turn =
    (goes_further before from a.known goes turn.0, turn.1)

pub turns_join : {withholds : Bool} (from middle to : KnownPrefix)
    (early late : List (WorkerAnswer withholds)) → AreInTurn from early middle
    → AreInTurn middle late to → AreInTurn from (early ++ late) to
turns_join from middle to [] late first then_on = turns_sooner from middle to late first then_on
turns_join from middle to (a ∷ early) late first then_on =
    (first.0, turns_join a.known middle to early late first.1 then_on)
