-- Laws that belong to no one function.
mod Joined
mod PutBits
mod RoomParts
