-- Answer: a noted fault is answered, with the row of the table or without one.
pub mod Answer
pub mod Shown
pub mod WholeRow
pub mod WholeEmpty
