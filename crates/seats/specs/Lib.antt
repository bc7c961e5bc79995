-- What the contracts of the seats cite.
pub mod SeatLayout
pub mod Seats
