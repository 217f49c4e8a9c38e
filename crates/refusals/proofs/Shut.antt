-- A return that an edit breaks is looked for shut. Where a search fails at an open promise, antt runs the declaration several times more, with the
-- promise's definitions unfolded, for its advice, and that takes longer than the proof; of a shut one it says at once that there is none.
pub data Shut (A : Type 0) : Type 0 where
  shut : A → Shut A

pub opened : {A : Type 0} → Shut A → A
opened (shut a) = a

-- With two premises, so that a search applies it to its goal alone and not to whatever stands in its scope.
pub closed : {A : Type 0} → Unit {0} → A → Shut A
closed u a = shut a
