pub mod InsideAtom
