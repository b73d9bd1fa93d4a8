mod Memories
